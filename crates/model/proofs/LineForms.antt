-- The forms of a job's line. A line asks for an act exactly where it has the act's form, byte by byte, and any other line is bad, number 12
-- (`line_means`): its fields are the pieces between the spaces, so the form is read off them, and a line of that form has these fields. A
-- serial field is valid exactly where it is a serial, number 4 else (`field_means`), and travels as its own bytes (`field_serial`).
use mathlib.Core.Path.{◌≡◌, refl, sym, ap, ◌∙◌, subst}
use mathlib.Core.Logic.{◌⊎◌, inl, inr, ⊎_elim, ◌↔◌}
use mathlib.Core.List.{List, [], ◌∷◌, ◌++◌}
use mathlib.Core.Bool.{true, ◌&&◌}
use Prim.Native.Nat.{ℕ, ◌+◌, ◌-◌, ◌≤◌, ◌<◌}
use native.Mathlib.Omega.{arith}
use lib.Dec.{ltb}
use lib.ListN.{length, take, get_or, replicate, length-append, get_or-replicate, get_or-append}
use lib.Seq.{length-take-le, get_or-take, get_or-append-add, take-take, take-append_seam}
use borrow.Author.Tests.{ltb-false, le-ltb}
use Rattle.rules.proofs.Tests.{by_cases, both, all_of}
use Rattle.model.specs.Lists.{between, all, same}
use Rattle.model.specs.Text.{fields, is_number, value_from}
use Rattle.model.specs.Job.{Line, bad, enter, show, withdraw, file, two, four, from_fields, line_of, padded}
use Rattle.model.specs.Serial.{valid_serial}
use Rattle.model.proofs.Lists.{between_is, same_eq, Every, every_imp}
use Rattle.model.proofs.Walks.{every_all, all_every}
use Rattle.model.proofs.Valid.{SerialByte, SerialMeans, valid_means}
use Rattle.model.proofs.Fields.{Without, FieldsMean, fields_are, fields_mean}
use Rattle.model.proofs.Decimals.{Digit, worth, value_means, digits_without}

-- a number field: 1 to 9 digits, and what they are worth
pub record NumberField (f : List ℕ) (v : ℕ) : Type 0 where
  pub some : 1 ≤ length f
  pub most : length f ≤ 9
  pub digit : Every Digit f
  pub value : worth f ≡ v

-- a letter, a space (32) and a serial
pub record Asks (letter : ℕ) (serial line : List ℕ) : Type 0 where
  pub form : line ≡ letter ∷ 32 ∷ serial
  pub one_field : Without 32 serial
  pub short : length line ≤ 64

-- `F` (70), serial, day and code, with a space between each two
pub record AsksFile (serial : List ℕ) (day code : ℕ) (line : List ℕ) : Type 0 where
  pub day_field : List ℕ
  pub code_field : List ℕ
  pub form : line ≡ 70 ∷ 32 ∷ (serial ++ (32 ∷ (day_field ++ (32 ∷ code_field))))
  pub one_field : Without 32 serial
  pub day_is : NumberField day_field day
  pub code_is : NumberField code_field code
  pub short : length line ≤ 64

-- `E` (69), `S` (83) or `W` (87) and a serial, or `F`, serial, day, code
abbrev pub Form : Line → List ℕ → Type 0
Form bad l = ⊥
Form (enter s) l = Asks 69 s l
Form (show s) l = Asks 83 s l
Form (withdraw s) l = Asks 87 s l
Form (file s day code) l = AsksFile s day code l

number_is : (f : List ℕ) → is_number f ≡ true → NumberField f (value_from 0 f)
unfolding is_number
number_is f e =
    let a = both (between 1 9 (length f)) (all (between 48 57) f) e in
    let n = (between_is 1 9 (length f)).0 a.0 in
    record {
      some = n.0;
      most = n.1;
      digit = every_imp (λ d. between 48 57 d ≡ true) Digit f (λ d. (between_is 48 57 d).0) (all_every (between 48 57) f a.1);
      value = sym (value_means f);
    }

is_number_lem : (f : List ℕ) (v : ℕ) → NumberField f v → is_number f ≡ true
unfolding is_number
is_number_lem f v m =
    all_of ((between_is 1 9 (length f)).1 (m.some, m.most))
    (every_all (between 48 57) f (every_imp Digit (λ d. between 48 57 d ≡ true) f (λ d. (between_is 48 57 d).1) m.digit))

-- what is read has its form

module _ (l : List ℕ) (short : length l ≤ 64) where
  two_form : (a b : List ℕ) → FieldsMean 32 l (a ∷ b ∷ []) → (two a b ≡ bad) ⊎ Form (two a b) l
  unfolding two
  two_form a b m =
      by_cases (same a (69 ∷ []))
      (λ e. rw e (inr (asks 69 e)))
      (λ e. rw e (by_cases (same a (83 ∷ []))
      (λ e. rw e (inr (asks 83 e)))
      (λ e. rw e (by_cases (same a (87 ∷ [])) (λ e. rw e (inr (asks 87 e))) (λ e. rw e (inl refl))))))
    where
      asks : (c : ℕ) → same a (c ∷ []) ≡ true → Asks c b l
      asks c e = record { form = m.text_is ∙ ap (λ (a : List ℕ). a ++ (32 ∷ b)) (same_eq a (c ∷ []) e); one_field = m.whole.1.0; short = short }

  four_form : (a b c d : List ℕ) → FieldsMean 32 l (a ∷ b ∷ c ∷ d ∷ []) → (four a b c d ≡ bad) ⊎ Form (four a b c d) l
  unfolding four
  four_form a b c d m = by_cases (same a (70 ∷ []) && (is_number c && is_number d)) (λ e. rw e (inr (asks e))) (λ e. rw e (inl refl))
    where
      asks : (same a (70 ∷ []) && (is_number c && is_number d)) ≡ true → AsksFile b (value_from 0 c) (value_from 0 d) l
      asks e =
          let h = both (same a (70 ∷ [])) (is_number c && is_number d) e in
          let k = both (is_number c) (is_number d) h.1 in
          record {
            day_field = c;
            code_field = d;
            form = m.text_is ∙ ap (λ (a : List ℕ). a ++ (32 ∷ (b ++ (32 ∷ (c ++ (32 ∷ d)))))) (same_eq a (70 ∷ []) h.0);
            one_field = m.whole.1.0;
            day_is = number_is c k.0;
            code_is = number_is d k.1;
            short = short;
          }

  fields_form : (fs : List (List ℕ)) → FieldsMean 32 l fs → (from_fields fs ≡ bad) ⊎ Form (from_fields fs) l
  unfolding from_fields
  fields_form [] m = inl refl
  fields_form (a ∷ []) m = inl refl
  fields_form (a ∷ b ∷ []) m = two_form a b m
  fields_form (a ∷ b ∷ c ∷ []) m = inl refl
  fields_form (a ∷ b ∷ c ∷ d ∷ []) m = four_form a b c d m
  fields_form (a ∷ b ∷ c ∷ d ∷ e ∷ fs) m = inl refl

line_form : (l : List ℕ) → (line_of l ≡ bad) ⊎ Form (line_of l) l
unfolding line_of
line_form l =
    by_cases (ltb 64 (length l)) (λ e. rw e (inl refl)) (λ e. rw e (fields_form l (ltb-false 64 (length l) e) (fields 32 l) (fields_are 32 l)))

-- what has the form is read

fields_line : (l : List ℕ) (fs : List (List ℕ)) → length l ≤ 64 → FieldsMean 32 l fs → line_of l ≡ from_fields fs
unfolding line_of
fields_line l fs h m = rw (le-ltb 64 (length l) h, (fields_mean 32 l fs).1 m)

asks_line : (c : ℕ) (s l : List ℕ) → (c ≡ 32 → ⊥) → Asks c s l → line_of l ≡ two (c ∷ []) s
unfolding from_fields
asks_line c s l n a = fields_line l ((c ∷ []) ∷ s ∷ []) a.short (record { some = omega arith; whole = ((n, tt), (a.one_field, tt)); text_is = a.form })

no_space : {f : List ℕ} {v : ℕ} → NumberField f v → Without 32 f
no_space {f} m = digits_without 32 f (omega arith) m.digit

form_line : (m : Line) (l : List ℕ) → Form m l → line_of l ≡ m
unfolding two four from_fields
form_line bad l f = absurd f
form_line (enter s) l a = asks_line 69 s l (omega arith) a
form_line (show s) l a = asks_line 83 s l (omega arith) a
form_line (withdraw s) l a = asks_line 87 s l (omega arith) a
form_line (file s day code) l a =
    fields_line l ((70 ∷ []) ∷ s ∷ a.day_field ∷ a.code_field ∷ []) a.short
    (record {
      some = omega arith;
      whole = ((omega arith, tt), (a.one_field, (no_space a.day_is, (no_space a.code_is, tt))));
      text_is = a.form;
    })
    ∙ rw (is_number_lem a.day_field day a.day_is, is_number_lem a.code_field code a.code_is, value_means a.day_field, value_means a.code_field, a.day_is.value, a.code_is.value)

-- what a line asks for, by its bytes: `E` enters, `S` shows, `W` withdraws, `F` files, and a line with none of these forms is bad
pub record LineMeans (l : List ℕ) : Type 0 where
  pub enters : (s : List ℕ) → (line_of l ≡ enter s) ↔ Asks 69 s l
  pub shows : (s : List ℕ) → (line_of l ≡ show s) ↔ Asks 83 s l
  pub withdraws : (s : List ℕ) → (line_of l ≡ withdraw s) ↔ Asks 87 s l
  pub files : (s : List ℕ) (day code : ℕ) → (line_of l ≡ file s day code) ↔ AsksFile s day code l
  pub formless : (line_of l ≡ bad) ↔ ((m : Line) → Form m l → ⊥)

-- a line that asks for something is not bad
abbrev pub Some : Line → Type 0
Some bad = ⊥
Some (enter s) = Unit {0}
Some (show s) = Unit {0}
Some (withdraw s) = Unit {0}
Some (file s day code) = Unit {0}

pub not_bad : (m : Line) → Some m → m ≡ bad → ⊥
not_bad m some e = subst Some e some

form_of : (l : List ℕ) (m : Line) → (m ≡ bad → ⊥) → line_of l ≡ m → Form m l
form_of l m some e = ⊎_elim (λ b. absurd (some (sym e ∙ b))) (λ f. subst (λ (m : Line). Form m l) e f) (line_form l)

pub line_means : (l : List ℕ) → LineMeans l
line_means l =
    record {
      enters = λ s. (form_of l (enter s) (not_bad (enter s) tt), form_line (enter s) l);
      shows = λ s. (form_of l (show s) (not_bad (show s) tt), form_line (show s) l);
      withdraws = λ s. (form_of l (withdraw s) (not_bad (withdraw s) tt), form_line (withdraw s) l);
      files = λ s day code. (form_of l (file s day code) (not_bad (file s day code) tt), form_line (file s day code) l);
      formless = (
        λ e m f. subst (λ (m : Line). Form m l) (sym (form_line m l f) ∙ e) f,
        λ none. ⊎_elim (λ b. b) (λ f. absurd (none (line_of l) f)) (line_form l),
      );
    }

-- a serial field, made sixteen bytes
module _ (f : List ℕ) where
  padded_long : length (padded f) ≡ 16
  unfolding padded
  padded_long = length-take-le 16 (f ++ replicate 16 0) (omega (arith, length-append f (replicate 16 0)))

  padded_at : (i : ℕ) → i < length f → i < 16 → get_or (padded f) i 0 ≡ get_or f i 0
  unfolding padded
  padded_at i h k = get_or-take 16 (f ++ replicate 16 0) i 0 k ∙ get_or-append f (replicate 16 0) 0 i h

  padded_past : (i : ℕ) → length f ≤ i → i < 16 → get_or (padded f) i 0 ≡ 0
  unfolding padded
  padded_past i h k =
      let d : i ≡ length f + (i - length f) = omega arith in
      get_or-take 16 (f ++ replicate 16 0) i 0 k
      ∙ ap (λ (j : ℕ). get_or (f ++ replicate 16 0) j 0) d
      ∙ get_or-append-add f (replicate 16 0) (i - length f) 0
      ∙ get_or-replicate 16 (i - length f) 0 0 (omega arith)

  -- it is valid exactly where the field is a serial; number 4 is for every other field
  pub field_means : (valid_serial (padded f) (length f) ≡ true) ↔ SerialMeans f
  field_means =
      let v = valid_means (padded f) (length f) in (
        λ e. let m = v.0 e in
            record { some = m.some; most = m.most; each = λ i h. subst SerialByte (padded_at i h (omega (arith, m.most))) (m.each i h) },
        λ m. v.1 (record { some = m.some; most = m.most; each = λ i h. subst SerialByte (sym (padded_at i h (omega (arith, m.most)))) (m.each i h); unused = λ i h k. padded_past i h (omega (arith, padded_long)) }),
      )

  pub field_serial : length f ≤ 16 → take (length f) (padded f) ≡ f
  unfolding padded
  field_serial h = take-take (length f) 16 (f ++ replicate 16 0) h ∙ take-append_seam f (replicate 16 0)
