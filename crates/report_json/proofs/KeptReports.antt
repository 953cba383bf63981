-- The compact text of a writable report keeps its data.
use Rattle.std.proofs.Common.{◌<◌, ◌^◌, ℕ, suc, List, [], ◌∷◌, map, refl, arith, inl, inr}
use Rattle.std.specs.Prelude.{codes}
use Rattle.std.specs.List.{AllByRecursion}
use Rattle.gil_values.specs.Pure.{PureValue}
use Rattle.gil_values.specs.Printed.{printed_value}
use Rattle.pure_terms.specs.declared.variables.Sort.{Sort}
use Rattle.gillian_words.specs.declared.tasks.Language.{Language}
use Rattle.gillian_words.specs.Tasks.{language_word}
use Rattle.syntax_print.specs.Expressions.{printed_expr}
use Rattle.value_text.specs.Writable.{IsWritableValue}
use Rattle.serde_json.specs.Data.{Data, string}
use Rattle.serde_json.specs.View.{items_of}
use Rattle.gil_report.specs.declared.answers.Lack.{Lack}
use Rattle.gil_report.specs.declared.heads.EntryMode.{EntryMode}
use Rattle.gil_report.specs.declared.heads.Head.{Head}
use Rattle.gil_report.specs.Json.{count, texts, question_data, unproved_data, answer_data, answers_data, headed, report_data}
use Rattle.gil_report.specs.Lines.{mode_word}
use Rattle.gil_report.specs.Printed.{lack_word, printed_binding, printed_condition, printed_sort}
use Rattle.gil_report.specs.Pure.{PureBinding, PureCondition, holds, has_value, PureQuestion, PureCause, fails, lacks, undecided_cause, depends}
use Rattle.gil_report.specs.Pure.{PureAnswer, returned, failed, vanished, cut, no_input, bad_input, number, clean, bug, undecided}
use Rattle.gil_report.specs.Pure.{verified, vacuous, unproved, found, sat, unsat, unknown, bytes, PureReport}
use Rattle.report_parts.specs.Writable.{IsVariableName, IsWritableBinding, IsWritableCondition, IsChoice, IsWritableQuestion, IsWritableCause}
use Rattle.report_text.specs.Writable.{IsWritableHead, IsWritableAnswer, IsWritable}
use Rattle.json_parts.specs.Kept.{IsKept, AreKept}
use Rattle.report_json.proofs.AsciiProofs.{proof_ascii}
use Rattle.report_json.proofs.AsciiSyntax.{IsAscii, name_ascii, logical_ascii, within_ascii, each, value_ascii, expr_ascii, specification_ascii}

-- ---- parts in ASCII

variable_ascii : (x : List ℕ) → IsVariableName x → IsAscii x
variable_ascii x (inl named) = name_ascii x named
variable_ascii x (inr marked) = logical_ascii x marked

binding_ascii : (b : PureBinding) → IsWritableBinding b → IsAscii (printed_binding b)
binding_ascii b is = within_ascii b.name (codes " = ") (printed_value b.value) (variable_ascii b.name is.0) refl (value_ascii b.value is.1)

condition_ascii : (c : PureCondition) → IsWritableCondition c → IsAscii (printed_condition c)
condition_ascii (holds e) is = expr_ascii e is
condition_ascii (has_value e) is = within_ascii (codes "open(") (printed_expr e) (codes ")") refl (expr_ascii e is) refl

sort_ascii : (s : Sort) → IsAscii (printed_sort s)
sort_ascii Sort.Int = refl
sort_ascii Sort.Bool = refl
sort_ascii Sort.Str = refl
sort_ascii Sort.Sym = refl
sort_ascii Sort.List = refl
sort_ascii Sort.Any = refl
sort_ascii Sort.Fresh = refl

lack_ascii : (l : Lack) → IsAscii (lack_word l)
lack_ascii Lack.Missing = refl
lack_ascii Lack.Post = refl
lack_ascii Lack.Invariant = refl
lack_ascii Lack.CallPre = refl
lack_ascii Lack.FoldBody = refl
lack_ascii Lack.Cut = refl

language_ascii : (l : Language) → IsAscii (language_word l)
language_ascii Language.GilRecord = refl
language_ascii Language.GilBlock = refl
language_ascii Language.GilObject = refl
language_ascii Language.While = refl
language_ascii Language.Clike = refl
language_ascii Language.Object = refl

mode_ascii : (m : EntryMode) → IsAscii (mode_word m)
mode_ascii EntryMode.Run = refl
mode_ascii EntryMode.Test = refl
mode_ascii EntryMode.Infer = refl

-- ---- parts that are kept

small : (n : ℕ) → n < 2 ^ 32 → n < 2 ^ 64
small n below = omega arith

counts_kept : (ns : List ℕ) (n : ℕ) → AllByRecursion IsChoice ns → AreKept (items_of (map count ns)) n
counts_kept [] n all = tt
counts_kept (m ∷ ns) n all = (all.0, counts_kept ns n all.1)

module _ {X : Type 0} (printed : X → List ℕ) where
  texts_kept : (xs : List X) (n : ℕ) → AllByRecursion (λ x. IsAscii (printed x)) xs → AreKept (items_of (map (λ x. string (printed x)) xs)) n
  texts_kept [] n all = tt
  texts_kept (x ∷ xs) n all = (all.0, texts_kept xs n all.1)

values_kept : (vs : List PureValue) (n : ℕ) → AllByRecursion IsWritableValue vs → IsKept (texts printed_value vs) (suc n)
values_kept vs n all = texts_kept printed_value vs n (each IsWritableValue (λ v. IsAscii (printed_value v)) value_ascii vs all)

bindings_kept : (bs : List PureBinding) (n : ℕ) → AllByRecursion IsWritableBinding bs → IsKept (texts printed_binding bs) (suc n)
bindings_kept bs n all = texts_kept printed_binding bs n (each IsWritableBinding (λ b. IsAscii (printed_binding b)) binding_ascii bs all)

conditions_kept : (cs : List PureCondition) (n : ℕ) → AllByRecursion IsWritableCondition cs → IsKept (texts printed_condition cs) (suc n)
conditions_kept cs n all = texts_kept printed_condition cs n (each IsWritableCondition (λ c. IsAscii (printed_condition c)) condition_ascii cs all)

all_sorts : (ss : List Sort) → AllByRecursion (λ s. IsAscii (printed_sort s)) ss
all_sorts [] = tt
all_sorts (s ∷ ss) = (sort_ascii s, all_sorts ss)

sorts_kept : (ss : List Sort) (n : ℕ) → IsKept (texts printed_sort ss) (suc n)
sorts_kept ss n = texts_kept printed_sort ss n (all_sorts ss)

-- ---- answers

-- The keys of each object ascend, which computes.

question_kept : (o : PureQuestion) (n : ℕ) → IsWritableQuestion o → IsKept (question_data o) (suc (suc n))
question_kept o n is = (
  (refl, (refl, (refl, (refl, (refl, (refl, (refl, (refl, tt)))))))),
  (
    refl,
    small o.place.at is.place.1,
    (
      refl,
      conditions_kept o.given n is.given,
      (
        refl,
        refl,
        (
          refl,
          is.outside,
          (
            refl,
            counts_kept o.path n is.path,
            (
              refl,
              name_ascii o.place.proc is.place.0,
              (
                refl,
                conditions_kept o.query n is.query,
                (refl, sorts_kept o.vars n, tt),
              ),
            ),
          ),
        ),
      ),
    ),
  ),
)

unproved_kept : (name : List ℕ) (cause : PureCause) (n : ℕ) → IsAscii name → IsWritableCause cause → IsKept (unproved_data name cause) (suc (suc n))
unproved_kept name (fails v w) n named is = (
  (refl, (refl, (refl, (refl, (refl, (refl, (refl, (refl, tt)))))))),
  (
    refl,
    small w.place.at is.1.place.1,
    (
      refl,
      refl,
      (
        refl,
        named,
        (
          refl,
          counts_kept w.path n is.1.path,
          (
            refl,
            name_ascii w.place.proc is.1.place.0,
            (refl, value_ascii v is.0, (refl, refl, (refl, bindings_kept w.with n is.1.with, tt))),
          ),
        ),
      ),
    ),
  ),
)
unproved_kept name (lacks lack w) n named is = (
  (refl, (refl, (refl, (refl, (refl, (refl, (refl, tt))))))),
  (
    refl,
    small w.place.at is.place.1,
    (
      refl,
      refl,
      (
        refl,
        named,
        (
          refl,
          counts_kept w.path n is.path,
          (
            refl,
            name_ascii w.place.proc is.place.0,
            (refl, lack_ascii lack, (refl, bindings_kept w.with n is.with, tt)),
          ),
        ),
      ),
    ),
  ),
)
unproved_kept name (undecided_cause o) n named is = (
  (refl, (refl, (refl, (refl, (refl, (refl, (refl, (refl, (refl, (refl, tt)))))))))),
  (
    refl,
    small o.place.at is.place.1,
    (
      refl,
      conditions_kept o.given n is.given,
      (
        refl,
        refl,
        (
          refl,
          named,
          (
            refl,
            is.outside,
            (
              refl,
              counts_kept o.path n is.path,
              (
                refl,
                name_ascii o.place.proc is.place.0,
                (
                  refl,
                  conditions_kept o.query n is.query,
                  (refl, sorts_kept o.vars n, (refl, refl, tt)),
                ),
              ),
            ),
          ),
        ),
      ),
    ),
  ),
)
unproved_kept name (depends other) n named is =
    ((refl, (refl, (refl, (refl, tt)))), (refl, refl, (refl, named, (refl, name_ascii other is, (refl, refl, tt)))))

answer_kept : (x : PureAnswer) (n : ℕ) → IsWritableAnswer x → IsKept (answer_data x) (suc (suc n))
answer_kept (returned v) n is = ((refl, (refl, tt)), (refl, refl, (refl, value_ascii v is, tt)))
answer_kept (failed v place) n is = (
  (refl, (refl, (refl, (refl, tt)))),
  (refl, small place.at is.1.1, (refl, refl, (refl, name_ascii place.proc is.1.0, (refl, value_ascii v is.0, tt)))),
)
answer_kept vanished n is = ((refl, tt), (refl, refl, tt))
answer_kept cut n is = ((refl, tt), (refl, refl, tt))
answer_kept (no_input draw) n is = ((refl, (refl, tt)), (refl, small draw is, (refl, refl, tt)))
answer_kept (bad_input draw) n is = ((refl, (refl, tt)), (refl, small draw is, (refl, refl, tt)))
answer_kept (number place) n is =
    ((refl, (refl, (refl, tt))), (refl, small place.at is.1, (refl, refl, (refl, name_ascii place.proc is.0, tt))))
answer_kept clean n is = ((refl, tt), (refl, refl, tt))
answer_kept (bug place v inputs) n is = (
  (refl, (refl, (refl, (refl, (refl, tt))))),
  (refl, small place.at is.0.1, (refl, values_kept inputs n is.2, (refl, refl, (refl, name_ascii place.proc is.0.0, (refl, value_ascii v is.1, tt))))),
)
answer_kept (undecided o) n is = question_kept o n is
answer_kept (verified name) n is = ((refl, (refl, tt)), (refl, refl, (refl, name_ascii name is, tt)))
answer_kept (vacuous name proof) n is =
    ((refl, (refl, (refl, tt))), (refl, refl, (refl, name_ascii name is.0, (refl, proof_ascii proof is.1, tt))))
answer_kept (unproved name cause) n is = unproved_kept name cause n (name_ascii name is.0) is.1
answer_kept (found spec is_cut) n is = ((refl, (refl, (refl, tt))), (refl, tt, (refl, refl, (refl, specification_ascii spec is.0, tt))))
answer_kept (sat bindings) n is = ((refl, (refl, tt)), (refl, refl, (refl, bindings_kept bindings n is, tt)))
answer_kept (unsat proof) n is = ((refl, (refl, tt)), (refl, refl, (refl, proof_ascii proof is, tt)))
answer_kept (unknown place) n is = ((refl, (refl, tt)), (refl, refl, (refl, is, tt)))
answer_kept (bytes length) n is = ((refl, (refl, tt)), (refl, is, (refl, refl, tt)))

answers_kept : (xs : List PureAnswer) (n : ℕ) → AllByRecursion IsWritableAnswer xs → AreKept (items_of (map answer_data xs)) (suc (suc n))
answers_kept [] n all = tt
answers_kept (x ∷ xs) n all = (answer_kept x n all.0, answers_kept xs n all.1)

-- ---- reports

headed_kept : (head : Head) (answers : Data) (n : ℕ) → IsWritableHead head → IsKept answers n → IsKept (headed head answers) (suc n)
headed_kept (Head.Entry mode language entry bound) answers n is kept = (
  (refl, (refl, (refl, (refl, (refl, tt))))),
  (refl, kept, (refl, small bound is.1, (refl, name_ascii entry is.0, (refl, language_ascii language, (refl, mode_ascii mode, tt))))),
)
headed_kept (Head.Check language bound) answers n is kept =
    ((refl, (refl, (refl, (refl, tt)))), (refl, kept, (refl, small bound is, (refl, language_ascii language, (refl, refl, tt)))))
headed_kept Head.Solve answers n is kept = ((refl, (refl, (refl, tt))), (refl, kept, (refl, refl, (refl, refl, tt))))
headed_kept (Head.Sweep size) answers n is kept = ((refl, (refl, (refl, tt))), (refl, kept, (refl, refl, (refl, small size is, tt))))

pub report_kept : (r : PureReport) (n : ℕ) → IsWritable r → IsKept (report_data r) (suc (suc (suc (suc n))))
report_kept r n is = headed_kept r.head (answers_data r.answers) (suc (suc (suc n))) is.head (answers_kept r.answers n is.answers)
