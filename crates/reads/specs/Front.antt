-- The first tests on a header: what has to hold before it is read.
use Rattle.std.specs.Prelude.{Bool, ◌&&◌, List, ℕ, eqb, leb, length, get_or}
use Rattle.model.specs.Shape.{Shape}
use Rattle.model.specs.Layout.{directory_offset_at, segments_offset_at, cards_offset_at, faults_offset_at, whole_length_at, bounds_at, rule_at, directory_at, segments_at, cards_at, faults_at, length_for, bounds_word, rule_word, shape_ok, shape_of}

-- the header's words are there, the shape that they tell is one, and the words are as long as it asks
unfoldable pub limits_fit : List ℕ → Bool
limits_fit w = leb directory_at (length w) && (shape_ok (shape_of w) && eqb (length w) (length_for (shape_of w)))

-- words 12 to 15, and words 9 to 15
unfoldable pub ends_fit : Shape → List ℕ → Bool
ends_fit sh w =
    eqb (get_or w faults_offset_at 0) (faults_at sh) && (eqb (get_or w whole_length_at 0) (length_for sh)
    && (eqb (get_or w bounds_at 0) (bounds_word sh) && eqb (get_or w rule_at 0) (rule_word sh)))

unfoldable pub offsets_fit : List ℕ → Bool
offsets_fit w =
    eqb (get_or w directory_offset_at 0) directory_at && (eqb (get_or w segments_offset_at 0) (segments_at (shape_of w))
    && (eqb (get_or w cards_offset_at 0) (cards_at (shape_of w)) && ends_fit (shape_of w) w))
