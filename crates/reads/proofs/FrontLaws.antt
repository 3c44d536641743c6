-- Laws of the words before the cells, read as a header.
use mathlib.Core.Path.{◌≡◌, sym, ap, ◌∙◌}
use mathlib.Core.Bool.{true}
use mathlib.Core.List.{List}
use Prim.Native.Nat.{ℕ, ◌*◌, ◌≤◌, ◌<◌}
use native.Mathlib.Nat.{mul-le-mul}
use native.Mathlib.Omega.{arith}
use lib.Dec.{eqb, leb, lit<}
use lib.ListN.{length, get_or}
use borrow.Author.Tests.{eqb-true, leb-true, eq-eqb, le-leb}
use Rattle.rules.proofs.Tests.{both, all_of}
use Rattle.model.specs.Bounds.{most_width}
use Rattle.model.specs.Shape.{Shape, top_of, card_width}
use Rattle.model.specs.Layout.{maxp_at, p_at, directory_offset_at, segments_offset_at, cards_offset_at, faults_offset_at, whole_length_at, bounds_at, rule_at, directory_at, segments_at, cards_at, faults_at, length_for, bounds_word, rule_word, shape_ok, shape_of, header, front}
use Rattle.model.proofs.Shapes.{width_most, top_most}
use Rattle.reads.specs.declared.header.Header.{Header}
use Rattle.reads.specs.Cells.{shape_in, Read}
use Rattle.reads.specs.Front.{limits_fit, ends_fit, offsets_fit}
use Rattle.reads.proofs.CellLaws.{sized_from}
use Rattle.model.specs.Model.{Store}
use Rattle.model.proofs.Rep.{Rep, rep_head}
use Rattle.model.proofs.Decode.{shape_at}

-- where the faults begin fits a word of 64 bits, whatever the limit
pub behind_few : (sh : Shape) → sh.limit < 4294967296 → faults_at sh < 68719476736
unfolding faults_at cards_at
behind_few sh l =
    let m : card_width sh * sh.limit ≤ most_width * sh.limit = mul-le-mul {n₂ = most_width} {m₂ = sh.limit} (width_most sh) (omega arith) in
    omega (arith, m, top_most sh)

-- what the first test shows
pub record Fit (w : List ℕ) : Type 0 where
  pub head : directory_at ≤ length w
  pub ok : shape_ok (shape_of w) ≡ true
  pub long : length w ≡ length_for (shape_of w)

pub fit_is : (w : List ℕ) → limits_fit w ≡ true → Fit w
unfolding limits_fit
fit_is w t =
    let a = both (leb directory_at (length w)) _ t in
    let b = both (shape_ok (shape_of w)) _ a.1 in
    record { head = leb-true directory_at (length w) a.0; ok = b.0; long = eqb-true (length w) (length_for (shape_of w)) b.1 }

-- and the second: words 9 to 15
pub record Offsets (w : List ℕ) : Type 0 where
  pub directory : get_or w directory_offset_at 0 ≡ directory_at
  pub segments : get_or w segments_offset_at 0 ≡ segments_at (shape_of w)
  pub base : get_or w cards_offset_at 0 ≡ cards_at (shape_of w)
  pub behind : get_or w faults_offset_at 0 ≡ faults_at (shape_of w)
  pub whole : get_or w whole_length_at 0 ≡ length_for (shape_of w)
  pub bounds : get_or w bounds_at 0 ≡ bounds_word (shape_of w)
  pub rule : get_or w rule_at 0 ≡ rule_word (shape_of w)

pub offsets_are : (w : List ℕ) → offsets_fit w ≡ true → Offsets w
unfolding offsets_fit ends_fit
offsets_are w t =
    let a = both (eqb (get_or w directory_offset_at 0) directory_at) _ t in
    let b = both (eqb (get_or w segments_offset_at 0) (segments_at (shape_of w))) _ a.1 in
    let c = both (eqb (get_or w cards_offset_at 0) (cards_at (shape_of w))) _ b.1 in
    let d = both (eqb (get_or w faults_offset_at 0) (faults_at (shape_of w))) _ c.1 in
    let e = both (eqb (get_or w whole_length_at 0) (length_for (shape_of w))) _ d.1 in
    let f = both (eqb (get_or w bounds_at 0) (bounds_word (shape_of w))) (eqb (get_or w rule_at 0) (rule_word (shape_of w))) e.1 in
    record {
      directory = eqb-true _ _ a.0;
      segments = eqb-true _ _ b.0;
      base = eqb-true _ _ c.0;
      behind = eqb-true _ _ d.0;
      whole = eqb-true _ _ e.0;
      bounds = eqb-true _ _ f.0;
      rule = eqb-true _ _ f.1;
    }

-- a header whose numbers are the words' makes the words read
pub fit_read : (w : List ℕ) (h : Header) → limits_fit w ≡ true → offsets_fit w ≡ true → shape_in h ≡ shape_of w
    → h.top ≡ top_of (shape_of w) → h.segments ≡ get_or w segments_offset_at 0 → h.base ≡ get_or w cards_offset_at 0 → h.width ≡ card_width (shape_of w) → h.behind ≡ get_or w faults_offset_at 0
    → h.maxp ≡ get_or w maxp_at 0 → h.p ≡ get_or w p_at 0 → Read w h
fit_read w h t o e top segments base width behind maxp p =
    let f = fit_is w t in
    let g = offsets_are w o in
    let b = sym e in
    record {
      sized =
          sized_from w h (ap shape_ok e ∙ f.ok) (f.long ∙ ap length_for b) (top ∙ ap top_of b) (segments ∙ g.segments ∙ ap segments_at b) (base ∙ g.base ∙ ap cards_at b)
          (width ∙ ap card_width b) (behind ∙ g.behind ∙ ap faults_at b);
      shape = b;
      maxp = sym maxp;
      state = sym p;
    }

pub head_fits : (sh : Shape) → directory_at ≤ length_for sh
unfolding length_for faults_at cards_at
head_fits sh = omega arith

-- what `header::read` asks

pub limits_from : (w : List ℕ) (s : Store) → Rep w s → limits_fit w ≡ true
unfolding limits_fit
limits_from w s r =
    rw (shape_at w s r)
    (all_of (le-leb directory_at (length w) (omega (arith, r.long, head_fits s.shape))) (all_of r.fair.shape (eq-eqb (length w) (length_for s.shape) r.long)))

pub offsets_from : (w : List ℕ) (s : Store) → Rep w s → offsets_fit w ≡ true
unfolding offsets_fit ends_fit front header
offsets_from w s r =
    let sh = s.shape in
    rw (shape_at w s r)
    (all_of (eq-eqb (get_or w directory_offset_at 0) directory_at (rep_head r directory_offset_at (lit< tt)))
    (all_of (eq-eqb (get_or w segments_offset_at 0) (segments_at sh) (rep_head r segments_offset_at (lit< tt)))
    (all_of (eq-eqb (get_or w cards_offset_at 0) (cards_at sh) (rep_head r cards_offset_at (lit< tt)))
    (all_of (eq-eqb (get_or w faults_offset_at 0) (faults_at sh) (rep_head r faults_offset_at (lit< tt)))
    (all_of (eq-eqb (get_or w whole_length_at 0) (length_for sh) (rep_head r whole_length_at (lit< tt)))
    (all_of (eq-eqb (get_or w bounds_at 0) (bounds_word sh) (rep_head r bounds_at (lit< tt))) (eq-eqb (get_or w rule_at 0) (rule_word sh) (rep_head r rule_at (lit< tt)))))))))

-- the words that a header is read from are there
pub head_there : (w : List ℕ) → limits_fit w ≡ true → directory_at ≤ length w
head_there w e = (fit_is w e).head
