-- What the answers of inference say.
use Rattle.std.specs.Prelude.{◌≡◌, ℕ, List, [], ◌∷◌, ◌++◌, map, Option, Some, None, IfSome, IsTrue}
use Rattle.gil_syntax.specs.Programs.{find_proc}
use Rattle.gil_syntax.specs.Pure.{PureProc, PureParts}
use Rattle.gil_syntax.specs.Simple.{is_simple}
use Rattle.gil_machine.specs.Run.{IsEntry}
use Rattle.inferred_specs.specs.Inferred.{PureFound, Covers}
use Rattle.bi_specifications.specs.Specified.{IsTrulyFound}
use Rattle.biabduce.specs.Narrowly.{IsNarrowlyDecidable}
use Rattle.biabduce.specs.NarrowRuns.{CoversNarrowly}
use Rattle.pure_terms.specs.Fragment.{InFragment}
use Rattle.sym_model.specs.Lists.{Each}
use Rattle.sym_test.specs.View.{PureQuery}
use Rattle.gil_report.specs.Pure.{PureAnswer, found, undecided}
use Rattle.gillian_core.specs.Answers.{question_of}
use Rattle.gillian_core.specs.Definitions.{Memory}

-- the answers that tell specifications, and what isn't decided
abbrev pub found_answers : List PureFound → List PureAnswer
found_answers founds = map (λ f. found f.spec f.cut) founds

abbrev pub question_answers : Option PureQuery → List PureAnswer
question_answers None = []
question_answers (Some q) = undecided (question_of q) ∷ []

-- The answers are specifications, each truly found of the procedure within the bound, and behind them at most one list of conditions that
-- isn't in the fragment: it is asked along a path to which a run comes, or of a beginning that comes of such a path. Where there is none, the
-- specifications cover the runs of the procedure. There is none of a procedure without parameters of a simple program, where the memory keeps
-- the law of plain memories; and none of any procedure of a narrow program, where it keeps the law of narrow memories; then runs of narrow
-- commands are covered also where there is one, and it is asked where some command on the way isn't of narrow form.
pub record AreRightFounds (m : Memory) (p : PureParts) (f : List ℕ) (n : ℕ) (answers : List PureAnswer) : Type 0 where
  pub founds : List PureFound
  pub unknown : Option PureQuery
  pub in_order : answers ≡ found_answers founds ++ question_answers unknown
  pub truly_found : Each (IsTrulyFound p m.name m.actions f n) founds
  pub undecided_one : IfSome unknown (λ q. ¬ InFragment q.query)
  pub asked : IfSome unknown (m.LeavesUnsaid p f n)
  pub other : m.keeps_narrow → IfSome unknown (m.MeetsOthers p f n)
  pub covers : unknown ≡ None → Covers p m.name m.actions f founds n
  pub decided : m.keeps_plain → IsTrue (is_simple p) → IsEntry p f → unknown ≡ None
  pub narrow : m.keeps_narrow → (q : PureProc) → find_proc p.procs f ≡ Some q → IsNarrowlyDecidable p m.name q → unknown ≡ None
  pub narrow_cover : m.keeps_narrow → CoversNarrowly p m.name m.actions f n founds
