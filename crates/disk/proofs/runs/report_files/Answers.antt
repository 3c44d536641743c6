-- `disk::runs::report_files` meets its contract: each refusal where the definition has it; else the words have room.
use mathlib.Core.Bool.{true}
use mathlib.Core.Path.{◌≡◌, sym, ap, ◌∙◌}
use Prim.Native.Nat.{ℕ, ◌*◌, ◌≤◌}
use native.Mathlib.Omega.{arith}
use lib.ListN.{length}
use lib.Seq.{length-take-le}
use Rattle.model.specs.Lists.{between}
use Rattle.model.specs.Report.{most_stores}
use Rattle.model.proofs.Lists.{between_is}
use Rattle.disk.specs.Report.{desk_report}
use Rattle.disk.proofs.Lengths.{within, most_words_lem}
use Rattle.disk.proofs.Summing.{sizes_room, refused}
use Rattle.disk.proofs.runs.report_files.Goals.{After-contains}
use Rattle.disk.proofs.runs.report_files.Goals as goal

-- the count of files is told as the definition tells it
told : (c : After-contains) → c.contains.result ≡ between 1 most_stores (length c.args.sizes.now)
told c = let r = c.new.ensures in within 1 most_stores _ c.contains.ensures.value r.start r.end r.exhausted

some : (c : After-contains) → c.contains.result ≡ true → between 1 most_stores (length c.args.sizes.now) ≡ true
some c e = sym (told c) ∙ e

few : (c : After-contains) → c.contains.result ≡ true → length c.args.sizes.now ≤ most_stores
few c e = ((between_is 1 most_stores (length c.args.sizes.now)).0 (some c e)).1

pub returns-then-not-contains : goal.returns-then-not-contains
unfolding desk_report
returns-then-not-contains c = rw (sym (told (goal.at.returns-then-not-contains c).After-contains) ∙ c.if-not-contains.true) refused

pub sizes_ok-requires : goal.sizes_ok-requires
sizes_ok-requires c = few (goal.at.sizes_ok-requires c).After-contains c.if-not-contains.false

pub returns-then-not-sizes_ok : goal.returns-then-not-sizes_ok
unfolding desk_report
returns-then-not-sizes_ok c =
    let d = c.sizes_ok in
    rw (some (goal.at.returns-then-not-sizes_ok c).After-contains c.if-not-contains.false, sym d.ensures ∙ c.if-not-sizes_ok.true) refused

pub slice_bounds-space-end : goal.slice_bounds-space-end
slice_bounds-space-end c =
    let d = c.sizes_ok in
    omega (arith, most_words_lem, c.room-space.ensures, (sizes_room _ c.args.sizes.now (sym d.ensures ∙ c.if-not-sizes_ok.false) (few (goal.at.slice_bounds-space-end c).After-contains c.if-not-contains.false)).0)

pub slice_bounds-report_in-end : goal.slice_bounds-report_in-end
slice_bounds-report_in-end c =
    let d = c.sizes_ok in
    let r = c.room-space in
    sym (length-take-le _ r.result (omega (arith, most_words_lem, r.ensures, (sizes_room _ c.args.sizes.now (sym d.ensures ∙ c.if-not-sizes_ok.false) (few (goal.at.slice_bounds-report_in-end c).After-contains c.if-not-contains.false)).0)))

pub report_in-requires : goal.report_in-requires
report_in-requires c =
    let d = c.sizes_ok in
    let r = c.room-space in
    let f = few (goal.at.report_in-requires c).After-contains c.if-not-contains.false in
    let z = sizes_room _ c.args.sizes.now (sym d.ensures ∙ c.if-not-sizes_ok.false) f in
    (z.1 ∙ ap (λ (n : ℕ). 4 * n) (sym (length-take-le _ r.result (omega (arith, most_words_lem, r.ensures, z.0)))), f)

pub returns : goal.returns
unfolding desk_report
returns c =
    let d = c.sizes_ok in
    rw (some (goal.at.returns c).After-contains c.if-not-contains.false, sym d.ensures ∙ c.if-not-sizes_ok.false) c.report_in.ensures
