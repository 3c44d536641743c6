-- What each sink must keep: texts put one behind another are one text, and each byte takes a byte of the room.
use Rattle.std.specs.Prelude.{◌≡◌, List, [], ◌++◌, ℕ, ◌-◌, length}

pub record SinkLaws {S : Type 0} (room : S → ℕ) (Takes : S → List ℕ → S → Type 0) : Type 0 where
  pub nothing : (s : S) → Takes s [] s
  pub together : (s t u : S) (a b : List ℕ) → Takes s a t → Takes t b u → Takes s (a ++ b) u
  pub room_after : (s t : S) (a : List ℕ) → Takes s a t → room t ≡ room s - length a
