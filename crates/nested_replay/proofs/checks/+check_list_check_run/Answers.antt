-- Where the numbers of a list and of a run stand in the sheet, what each may call, and what each tells.
use Rattle.std.proofs.Common.{◌≡◌, sym, ap, ◌∙◌, get_or, arith, ℕ, ◌+◌, ◌-◌, ◌*◌, ◌≤◌, ◌<◌, length}
use Rattle.body.specs.Decode.{decode, task_of}
use Rattle.nested_replay.specs.Passes.{checked_list}
use Rattle.nested_replay.proofs.SheetLists.{list-none, list_deep}
use Rattle.nested_replay.proofs.CheckLaws.{block-few, point_told, RunLeft, point_stands, run-reads, point_in, done-wrong, run-wrong, rest-rules, rest-within, all_told}
use Rattle.nested_replay.proofs.CheckLaws.{path_in, path-wrong, list-rules, list-ends, list_told}
use Rattle.nested_replay.proofs.RunParts.{path_part, run-stands, run-there, run-kept}
use Rattle.sheet.specs.Parsed.{complete_path}
use Rattle.task_maps.specs.TaskMaps.{IsMapOf, no_map}
use Rattle.nested_replay.proofs.TaskTables.{map-is, map_there, jumps-complete}
use Rattle.nested_replay.proofs.checks.+check_list_check_run.Goals as goal
use Rattle.nested_replay.proofs.checks.+check_list_check_run.Goals.{check_list-Else-deep-eq0, check_run-After-steps_to_end, check_run-After-task_body-body}

-- the list has a run left
abbrev left : (t : ℕ) (c : check_list-Else-deep-eq0 t) → RunLeft c.args.input.now.file.now c.args.input.now.sheet.now c.args.on.now.path.now c.args.deep c.args.left c.args.at
left t c = record { file = c.requires.0; rules = c.requires.2; ends = c.requires.3; some = c.if-left-eq0.false; depth = c.if-deep-eq0.false }

-- its point's two numbers stand in the sheet
stands : (t : ℕ) (c : check_list-Else-deep-eq0 t) → c.args.at + 2 ≤ length c.args.input.now.sheet.now
stands t c = point_stands c.args.input.now.file.now c.args.input.now.sheet.now (task_of (decode c.args.on.now.body.now)) c.args.on.now.path.now c.args.deep c.args.left c.args.at (left t c)

pub check_list-returns-then-left-eq0 : goal.check_list-returns-then-left-eq0
check_list-returns-then-left-eq0 t c =
    let args = c.args in
    ap (checked_list args.input.now.file.now (task_of (decode args.on.now.body.now)) args.on.now.path.now) (sym (list-none args.deep args.input.now.sheet.now args.at c.if-left-eq0.true))

pub check_list-returns-then-deep-eq0 : goal.check_list-returns-then-deep-eq0
check_list-returns-then-deep-eq0 t c =
    let args = c.args in
    ap (checked_list args.input.now.file.now (task_of (decode args.on.now.body.now)) args.on.now.path.now) (sym (list_deep args.input.now.sheet.now args.left args.at c.if-deep-eq0.true))

pub check_list-offset_bounds-sheet-at : goal.check_list-offset_bounds-sheet-at
check_list-offset_bounds-sheet-at t c = omega (arith, stands t (goal.at.check_list-offset_bounds-sheet-at t c).Else-deep-eq0)

pub check_list-bounds-sheet-at : goal.check_list-bounds-sheet-at
check_list-bounds-sheet-at t c = omega (arith, stands t (goal.at.check_list-bounds-sheet-at t c).Else-deep-eq0)

pub check_list-overflow_add-at : goal.check_list-overflow_add-at
check_list-overflow_add-at t c = omega (arith, stands t (goal.at.check_list-overflow_add-at t c).Else-deep-eq0)

pub check_list-offset_bounds-sheet-at-2 : goal.check_list-offset_bounds-sheet-at-2
check_list-offset_bounds-sheet-at-2 t c = omega (arith, stands t (goal.at.check_list-offset_bounds-sheet-at-2 t c).Else-deep-eq0)

pub check_list-bounds-sheet-at-2 : goal.check_list-bounds-sheet-at-2
check_list-bounds-sheet-at-2 t c = omega (arith, stands t (goal.at.check_list-bounds-sheet-at-2 t c).Else-deep-eq0)

pub check_list-right_done-requires : goal.check_list-right_done-requires
check_list-right_done-requires t c =
    let args = c.args in
    let l = left t (goal.at.check_list-right_done-requires t c).Else-deep-eq0 in
    point_in args.input.now.file.now args.input.now.sheet.now (task_of (decode args.on.now.body.now)) args.on.now.path.now args.deep args.left args.at l c.from-position.ensures c.from.ensures

pub check_list-overflow_add-at-2 : goal.check_list-overflow_add-at-2
check_list-overflow_add-at-2 t c = omega (arith, stands t (goal.at.check_list-overflow_add-at-2 t c).Else-deep-eq0)

pub check_list-check_run-requires : goal.check_list-check_run-requires
check_list-check_run-requires t c =
    let args = c.args in
    let l = left t (goal.at.check_list-check_run-requires t c).Else-deep-eq0 in
    let less : 131072 * (args.deep - 1) + 65536 < t = omega (arith, c.decreases, c.if-deep-eq0.false) in
    (less, (run-reads args.input.now.file.now args.input.now.sheet.now (task_of (decode args.on.now.body.now)) args.on.now.path.now args.deep args.left args.at l, c.requires.4))

pub check_list-check_list-rest-requires : goal.check_list-check_list-rest-requires
check_list-check_list-rest-requires t c =
    let args = c.args in
    let own = task_of (decode args.on.now.body.now) in
    let l = left t (goal.at.check_list-check_list-rest-requires t c).Else-deep-eq0 in
    let less : 131072 * args.deep + (args.left - 1) < t = omega (arith, c.decreases, c.if-left-eq0.false) in
    let told = sym c.in_ok-inner.was ∙ c.check_run.ensures in (
      less,
      (
        c.requires.0,
        c.requires.1,
        rest-rules args.input.now.file.now args.input.now.sheet.now own args.on.now.path.now args.deep args.left args.at l c.from-position.ensures c.from.ensures c.right_done.ensures c.if-not-right_done.false told,
        rest-within args.input.now.file.now args.input.now.sheet.now own args.on.now.path.now args.deep args.left args.at l c.from-position.ensures c.from.ensures c.right_done.ensures c.if-not-right_done.false told,
        c.requires.4,
      ),
    )

pub check_list-point_unmasked-requires : goal.check_list-point_unmasked-requires
check_list-point_unmasked-requires t c =
    let args = c.args in
    let l = left t (goal.at.check_list-point_unmasked-requires t c).Else-deep-eq0 in
    let inside = point_in args.input.now.file.now args.input.now.sheet.now (task_of (decode args.on.now.body.now)) args.on.now.path.now args.deep args.left args.at l c.from-position.ensures c.from.ensures in
    (inside, block-few args.on.now.body.now args.on.now.starts.now args.on.now.path.now args.on.now.there c.from-position.result inside)

pub check_list-returns-in_err-inner : goal.check_list-returns-in_err-inner
check_list-returns-in_err-inner t c =
    let args = c.args in
    let l = left t (goal.at.check_list-returns-in_err-inner t c).Else-deep-eq0 in
    c.from_residual.ensures ∙ run-wrong args.input.now.file.now args.input.now.sheet.now (task_of (decode args.on.now.body.now)) args.on.now.path.now args.deep args.left args.at l c.from-position.ensures c.from.ensures c.right_done.ensures c.if-not-right_done.false (sym c.in_err-inner.was ∙ c.check_run.ensures)

pub check_list-returns : goal.check_list-returns
check_list-returns t c =
    let args = c.args in
    let own = task_of (decode args.on.now.body.now) in
    let l = left t (goal.at.check_list-returns t c).Else-deep-eq0 in
    let inside = point_in args.input.now.file.now args.input.now.sheet.now own args.on.now.path.now args.deep args.left args.at l c.from-position.ensures c.from.ensures in
    all_told args.input.now.file.now args.input.now.sheet.now own args.on.now.path.now args.deep args.left args.at l c.from-position.ensures c.from.ensures c.right_done.ensures c.if-not-right_done.false
    (sym c.in_ok-inner.was ∙ c.check_run.ensures)
    c.check_list-rest.ensures
    (point_told args.on.now.body.now args.on.now.starts.now args.on.now.path.now args.on.now.there c.from-position.result inside c.requires.1 c.point_unmasked.ensures)
    c.joined.ensures c.joined-2.ensures

pub check_list-returns-then-not-right_done : goal.check_list-returns-then-not-right_done
check_list-returns-then-not-right_done t c =
    let args = c.args in
    let l = left t (goal.at.check_list-returns-then-not-right_done t c).Else-deep-eq0 in
    done-wrong args.input.now.file.now args.input.now.sheet.now (task_of (decode args.on.now.body.now)) args.on.now.path.now args.deep args.left args.at l c.from-position.ensures c.from.ensures c.right_done.ensures c.if-not-right_done.true

pub check_run-slice_bounds-path-end : goal.check_run-slice_bounds-path-end
check_run-slice_bounds-path-end t c = omega (arith, run-stands c.args.input.now.file.now c.args.input.now.sheet.now c.args.deep c.args.at c.requires.0, c.from.ensures)

pub check_run-block_count-requires : goal.check_run-block_count-requires
check_run-block_count-requires t c =
    run-kept c.args.input.now.file.now c.args.input.now.sheet.now c.args.deep c.args.at c.requires.0 c.from-p.ensures c.task_body-body.ensures.0

pub check_run-bounds-sheet-to : goal.check_run-bounds-sheet-to
check_run-bounds-sheet-to t c = omega (arith, run-stands c.args.input.now.file.now c.args.input.now.sheet.now c.args.deep c.args.at c.requires.0, c.from.ensures)

-- its map is that of its body
map : (t : ℕ) (c : check_run-After-task_body-body t) → IsMapOf c.task_body-body.result.now (get_or c.args.input.now.maps.now c.from-p.result no_map)
map t c = map-is c.args.input.now.file.now c.requires.0.file (run-there c.args.input.now.file.now c.args.input.now.sheet.now c.args.deep c.args.at c.requires.0 c.from-p.ensures) c.task_body-body.ensures.0 c.requires.1

pub check_run-bounds-input-p : goal.check_run-bounds-input-p
check_run-bounds-input-p t c =
    map_there c.args.input.now.file.now c.requires.0.file (run-there c.args.input.now.file.now c.args.input.now.sheet.now c.args.deep c.args.at c.requires.0 c.from-p.ensures) c.task_body-body.ensures.0 c.requires.1

-- whether its path is complete
complete : (t : ℕ) (c : check_run-After-steps_to_end t)
    → c.steps_to_end.result ≡ complete_path (task_of (decode c.task_body-body.result.now)) (path_part c.args.input.now.sheet.now c.args.at c.from.result)
complete t c =
    jumps-complete c.args.input.now.file.now c.requires.0.file (run-there c.args.input.now.file.now c.args.input.now.sheet.now c.args.deep c.args.at c.requires.0 c.from-p.ensures) c.task_body-body.ensures.0 c.requires.1
    (path_part c.args.input.now.sheet.now c.args.at c.from.result) c.block_count.ensures.0 c.steps_to_end.ensures

pub check_run-invariant_of-on : goal.check_run-invariant_of-on
check_run-invariant_of-on t c = record {
  there = path_in c.args.input.now.file.now c.args.input.now.sheet.now c.args.deep c.args.at c.requires.0 c.from-p.ensures c.from.ensures c.task_body-body.ensures.0 (complete t (goal.at.check_run-invariant_of-on t c).After-steps_to_end) c.if-not-steps_to_end.false (map t (goal.at.check_run-invariant_of-on t c).After-task_body-body).starts;
}

pub check_run-check_list-requires : goal.check_run-check_list-requires
check_run-check_list-requires t c =
    let file = c.args.input.now.file.now in
    let sheet = c.args.input.now.sheet.now in
    let complete' = complete t (goal.at.check_run-check_list-requires t c).After-steps_to_end in
    let less : 131072 * c.args.deep + c.from-2.result < t = omega (arith, c.decreases, c.from-2.ensures) in (
      less,
      (
        c.requires.0.file,
        (map t (goal.at.check_run-check_list-requires t c).After-task_body-body).unmasked,
        list-rules file sheet c.args.deep c.args.at c.requires.0 c.from-p.ensures c.from.ensures c.task_body-body.ensures.0 complete' c.if-not-steps_to_end.false c.from-2.ensures,
        list-ends file sheet c.args.deep c.args.at c.requires.0 c.from-p.ensures c.from.ensures c.task_body-body.ensures.0 complete' c.if-not-steps_to_end.false c.from-2.ensures,
        c.requires.1,
      ),
    )

pub check_run-returns-then-not-steps_to_end : goal.check_run-returns-then-not-steps_to_end
check_run-returns-then-not-steps_to_end t c =
    path-wrong c.args.input.now.file.now c.args.input.now.sheet.now c.args.deep c.args.at c.requires.0 c.from-p.ensures c.from.ensures c.task_body-body.ensures.0 (complete t (goal.at.check_run-returns-then-not-steps_to_end t c).After-steps_to_end) c.if-not-steps_to_end.true

pub check_run-returns : goal.check_run-returns
check_run-returns t c =
    list_told c.args.input.now.file.now c.args.input.now.sheet.now c.args.deep c.args.at c.requires.0 c.from-p.ensures c.from.ensures c.task_body-body.ensures.0 (complete t (goal.at.check_run-returns t c).After-steps_to_end) c.if-not-steps_to_end.false c.from-2.ensures c.check_list.ensures
