-- Texts put into a sink one behind another: room for both is room for the first, and, once it is put, for the second; and `Left` is what a loop
-- keeps of the text that it still has to put. From the laws of the sink alone. Assumes nothing.
use Rattle.std.proofs.Common.{◌≡◌, ℕ, ◌≤◌, List, [], ◌++◌, length, refl, sym, ap, ◌∙◌, append_assoc, append-nil, arith, length-append, subst}
use Rattle.text.specs.SinkLaws.{SinkLaws}

pub room_first : {n : ℕ} (a b : List ℕ) → length (a ++ b) ≤ n → length a ≤ n
room_first a b h = omega (arith, length-append a b)

module _ {S : Type 0} {room : S → ℕ} {Takes : S → List ℕ → S → Type 0} (laws : SinkLaws room Takes) where
  pub takes_then : {s t u : S} (a b : List ℕ) → Takes s a t → Takes t b u → Takes s (a ++ b) u
  takes_then {s} {t} {u} a b p q = laws.together s t u a b p q

  pub room_then : {s t : S} (a b : List ℕ) → Takes s a t → length (a ++ b) ≤ room s → length b ≤ room t
  room_then {s} {t} a b p h = omega (arith, length-append a b, laws.room_after s t a p)

-- what is put so far, with the text that is left, makes the whole
pub record Left {S : Type 0} (Takes : S → List ℕ → S → Type 0) (first : S) (whole : List ℕ) (now : S) (text : List ℕ) : Type 0 where
  pub done : List ℕ
  pub put : Takes first done now
  pub same : done ++ text ≡ whole

module _ {S : Type 0} {room : S → ℕ} {Takes : S → List ℕ → S → Type 0} (laws : SinkLaws room Takes) where
  pub left_all : {s : S} {text : List ℕ} → Left Takes s text s text
  left_all {s} = record { done = []; put = laws.nothing s; same = refl }

  pub left_less : {s t u : S} {whole : List ℕ} (a b : List ℕ) → Left Takes s whole t (a ++ b) → Takes t a u → Left Takes s whole u b
  left_less {s} {t} {u} a b l p = record { done = l.done ++ a; put = laws.together s t u l.done a l.put p; same = append_assoc l.done a b ∙ l.same }

  pub left_room : {s t : S} {whole : List ℕ} (text : List ℕ) → Left Takes s whole t text → length whole ≤ room s → length text ≤ room t
  left_room {s} {t} text l h = omega (arith, ap length l.same, length-append l.done text, laws.room_after s t l.done l.put)

  pub left_none : {s t : S} {whole : List ℕ} → Left Takes s whole t [] → Takes s whole t
  left_none {s} {t} l = subst (λ (x : List ℕ). Takes s x t) (sym (append-nil l.done) ∙ l.same) l.put
