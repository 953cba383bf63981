-- The pure data of reports.
use Rattle.std.specs.Prelude.{List, Some, None, map}
use Rattle.gil_values.specs.View.{value_view, values_view}
use Rattle.gil_syntax.specs.View.{expr_view, spec_view}
use Rattle.gil_report.specs.declared.proofs.NamedProof.{NamedProof, fold-NamedProof}
use Rattle.gil_report.specs.declared.proofs.NamedProofs.{NamedProofs, fold-NamedProofs}
use Rattle.gil_report.specs.declared.proofs.NamedProof.TheOpen.{NamedProof-F, NamedProofs-F}
use Rattle.gil_report.specs.declared.answers.Binding.{Binding}
use Rattle.gil_report.specs.declared.answers.Condition.{Condition}
use Rattle.gil_report.specs.declared.answers.Question.{Question}
use Rattle.gil_report.specs.declared.answers.Witness.{Witness}
use Rattle.gil_report.specs.declared.answers.Cause.{Cause}
use Rattle.gil_report.specs.declared.answers.Answer.{Answer}
use Rattle.gil_report.specs.declared.answers.Answer.TheVariants as answers
use Rattle.gil_report.specs.declared.reports.Report.{Report}
use Rattle.gil_report.specs.Pure.{PureNamedProof, sum_of, false_at, chain, cases_of, values_at, parts_apart, parts_at, differ_at, split_on, meet_at, from_list}
use Rattle.gil_report.specs.Pure.{PureBinding, PureCondition, holds, has_value, PureQuestion, PureWitness, PureCause, fails, lacks, undecided_cause, depends}
use Rattle.gil_report.specs.Pure.{PureAnswer, returned, failed, vanished, cut, no_input, bad_input, number, clean, bug, undecided}
use Rattle.gil_report.specs.Pure.{verified, vacuous, unproved, found, sat, unsat, unknown, bytes, PureReport}

-- ---- proofs

-- one level of a proof, with each part already seen as its pure data
abbrev pub named_proof_step : NamedProof-F PureNamedProof (List PureNamedProof) → PureNamedProof
named_proof_step (NamedProof-F.Sum fs) = sum_of fs
named_proof_step (NamedProof-F.False i) = false_at i
named_proof_step (NamedProof-F.Chain is end) = chain is end
named_proof_step (NamedProof-F.Cases e ps) = cases_of (expr_view e) (from_list ps)
named_proof_step (NamedProof-F.Values i ps) = values_at i (from_list ps)
named_proof_step (NamedProof-F.Parts i None) = parts_apart i
named_proof_step (NamedProof-F.Parts i (Some p)) = parts_at i p.value
named_proof_step (NamedProof-F.Differ i ps) = differ_at i (from_list ps)
named_proof_step (NamedProof-F.Split e p q) = split_on (expr_view e) p.value q.value
named_proof_step (NamedProof-F.Meet i j k) = meet_at i j k

abbrev pub named_proofs_step : NamedProofs-F PureNamedProof (List PureNamedProof) → List PureNamedProof
named_proofs_step ps = ps.items.items

abbrev pub named_proof_view : NamedProof → PureNamedProof
named_proof_view = fold-NamedProof PureNamedProof (List PureNamedProof) named_proof_step named_proofs_step

abbrev pub named_proofs_view : NamedProofs → List PureNamedProof
named_proofs_view = fold-NamedProofs PureNamedProof (List PureNamedProof) named_proof_step named_proofs_step

-- ---- answers

abbrev pub binding_view : Binding → PureBinding
binding_view b = record { name = b.name; value = value_view b.value }

abbrev pub condition_view : Condition → PureCondition
condition_view (Condition.Holds e) = holds (expr_view e)
condition_view (Condition.Open e) = has_value (expr_view e)

abbrev pub question_view : Question → PureQuestion
question_view o = record {
  place = o.place;
  path = o.path;
  vars = o.vars;
  given = map condition_view o.given;
  query = map condition_view o.query;
  outside = o.outside;
}

abbrev pub witness_view : Witness → PureWitness
witness_view w = record { place = w.place; path = w.path; with = map binding_view w.with }

abbrev pub cause_view : Cause → PureCause
cause_view (Cause.Fails v w) = fails (value_view v) (witness_view w)
cause_view (Cause.Lacks lack w) = lacks lack (witness_view w)
cause_view (Cause.Undecided o) = undecided_cause (question_view o)
cause_view (Cause.Depends name) = depends name

abbrev pub answer_view : Answer → PureAnswer
answer_view (answers.Returned v) = returned (value_view v)
answer_view (answers.Failed v place) = failed (value_view v) place
answer_view answers.Vanished = vanished
answer_view answers.Cut = cut
answer_view (answers.NoInput draw) = no_input draw
answer_view (answers.BadInput draw) = bad_input draw
answer_view (answers.Number place) = number place
answer_view answers.Clean = clean
answer_view (answers.Bug place v inputs) = bug place (value_view v) (values_view inputs)
answer_view (answers.Undecided o) = undecided (question_view o)
answer_view (answers.Verified name) = verified name
answer_view (answers.Vacuous name proof) = vacuous name (named_proof_view proof)
answer_view (answers.Unproved name cause) = unproved name (cause_view cause)
answer_view (answers.Found spec is_cut) = found (spec_view spec) is_cut
answer_view (answers.Sat bindings) = sat (map binding_view bindings)
answer_view (answers.Unsat proof) = unsat (named_proof_view proof)
answer_view (answers.Unknown place) = unknown place
answer_view (answers.Bytes length) = bytes length

-- ---- reports

abbrev pub report_view : Report → PureReport
report_view r = record { head = r.head; answers = map answer_view r.answers }
