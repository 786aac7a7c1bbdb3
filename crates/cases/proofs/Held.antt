-- P1 to P10 hold of the definitions: each is computed, from the bytes of its table.
use mathlib.Core.Path.{◌≡◌, refl}
use mathlib.Core.Bool.{true}
use Rattle.basis.specs.Build
use Rattle.basis.specs.Count
use Rattle.basis.specs.Reason
use Rattle.word.specs.Word
use Rattle.pieces.specs.Pieces
use Rattle.range.specs.Range
use Rattle.in_bytes.specs.Numbers
use Rattle.row.specs.Names
use Rattle.row.specs.Bytes
use Rattle.names.specs.First
use Rattle.table.specs.Uses
use Rattle.table.specs.Refusals
use Rattle.term.specs.Term
use Rattle.term.specs.Seen
use Rattle.term.specs.Base
use Rattle.term.specs.Relation
use Rattle.term.specs.Walk
use Rattle.term.specs.Rule
use Rattle.term.specs.Result
use Rattle.term.specs.Compared
use Rattle.term.specs.Bytes as termBytes
use Rattle.judge.specs.Verdict
use Rattle.judge.specs.Run as judgeRun
use Rattle.judge.specs.Kept
use Rattle.judge.specs.Edit as judgeEdit
use Rattle.judge.specs.Ask as judgeAsk
use Rattle.simplify.specs.Answer
use Rattle.simplify.specs.Run
use Rattle.simplify.specs.Edit
use Rattle.question.specs.Ask
use Rattle.cases.specs.Case
use Rattle.cases.specs.Cases

pub all_hold_lem : Case.all_hold Cases.cases ≡ true
unfolding Build.put Build.grow Build.grown Count.count_where Count.total Count.any_below Reason.first Word.plus Word.minus Pieces.sum_of Pieces.negation_of Pieces.of_each Pieces.below Pieces.joined Pieces.add Pieces.union Pieces.gap Pieces.smallest Pieces.filled Pieces.fill Pieces.fewest Range.span Range.point Range.full Range.is_two Range.pieces Range.of_pieces Range.sums Range.sum Range.negations Range.negation Range.has Range.disjoint Names.place Numbers.number Numbers.bytes Bytes.row_from Bytes.row_at Bytes.source_at Bytes.mark_wrong Bytes.head_of Bytes.bytes_of Bytes.put_row First.name_of First.name_at First.first_named First.first_of Uses.sort_of Uses.uses_of Refusals.width Refusals.rows Refusals.head_wrong Refusals.head_reasons Refusals.reference Refusals.use_at Uses.is_used Uses.is_reference Uses.refers_to Uses.is_sort Refusals.any_field Refusals.stray_field Refusals.large_number Refusals.not_below Refusals.wrong_sort Refusals.bounds_crossed Refusals.other_bounds Refusals.row_reasons Refusals.row_fault Refusals.refuse Refusals.accepted Refusals.given Refusals.first_faulty Refusals.check_rows Refusals.check_table Term.term_of Term.row_of Term.stated_by Term.is_read Term.is_array Term.any_named Seen.first_row Seen.is_later Seen.by_name Seen.seen Base.base Base.offset Base.base_of Base.offset_of Base.written Base.shape_of Base.left_of Base.right_of Base.same_base Base.is_nothing Base.open_row Base.open_offset Base.open_to Base.open_by Base.plain_of Base.plain Relation.range_by Relation.range_down Relation.range_of Relation.related Relation.relation_number Walk.walk Walk.walk_at Walk.step Walk.compared Rule.shift_rule Rule.sum_rule Rule.neg_by Rule.neg_rule Rule.diff_rule Rule.read_by Rule.read_rule Rule.skip_by Rule.skip_at Rule.write_rule Rule.rule Result.rule_at Result.simplified Result.renewed Result.result Result.touched_by Result.touched_in Result.removed_rows Compared.compared_by Compared.compared_rows termBytes.look termBytes.edited termBytes.put_if termBytes.put_rows Verdict.is_accepted judgeRun.room_reasons judgeRun.limit_reasons judgeRun.run_reasons judgeRun.run_verdict Kept.kept_part Kept.other_header Kept.other_sorts Kept.kept_wrong Kept.kept_verdict judgeEdit.edit_reasons judgeAsk.pair_reasons judgeAsk.array_reasons judgeAsk.array_verdict Answer.modulus Answer.answer Answer.if_accepted Answer.answered Run.fresh_rows Run.fresh_bytes Run.fresh_removed Run.fresh_compared Run.run_answer Run.run_result Edit.edit_verdict Edit.is_touched Edit.edited_rows Edit.edited_bytes Edit.edited_removed Edit.touched_rows Edit.edited_compared Edit.edit_answer Edit.edit_table Edit.edit_kept Ask.ask_verdict Ask.kept_rows Ask.ask_relation Ask.compared Ask.ask_answer Case.recorded Case.rows_of Case.table_of Case.room Case.holds Case.all_hold Cases.p1 Cases.p1_result Cases.p1_stopped Cases.begins Cases.chain Cases.chain_result Cases.pair Cases.pair_result Cases.single Cases.unmarked Cases.other Cases.long Cases.above Cases.largest Cases.cases
all_hold_lem = refl
