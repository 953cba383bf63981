-- What is right to be written of a text, by what is asked for.
use Rattle.std.specs.Prelude.{◌≡◌, ℕ, List, [], ◌∷◌, length, map, codes}
use Rattle.std.specs.FinMap.{empty}
use Rattle.gil_values.specs.Pure.{PureValue}
use Rattle.gil_syntax.specs.Pure.{PureParts}
use Rattle.mem_model.specs.Actions.{Actions}
use Rattle.assert_logic.specs.Modes.{HasModes}
use Rattle.gil_machine.specs.Held.{held_run_of}
use Rattle.gil_machine.specs.Run.{IsBug, IsClean, IsEntry}
use Rattle.pure_terms.specs.Deciding.{IsRight as IsRightDecision, sat as decided_sat, unknown as decided_unknown}
use Rattle.pure_terms.specs.Meaning.{IsUnsatisfiable}
use Rattle.pure_terms.specs.declared.deciders.Reason.{Reason}
use Rattle.solver_proof.specs.Closing.{Closes}
use Rattle.solver_proof.specs.Pure.{PureProof}
use Rattle.atom_text.specs.Accepted.{PureAtomText, SpellAtoms}
use Rattle.sweep_text.specs.Made.{made_text}
use Rattle.sym_test.specs.Undecided.{FailsSimply}
use Rattle.sym_test.specs.View.{PureQuery}
use Rattle.gillian_words.specs.Tasks.{PureTask, run, test, check, infer, compile, solve, sweep}
use Rattle.gil_report.specs.declared.heads.EntryMode.TheVariants.{Run, Test, Infer}
use Rattle.gil_report.specs.declared.heads.Head.{Head}
use Rattle.gil_report.specs.Pure.{PureAnswer, failed, clean, bug, undecided, sat, unsat, unknown, bytes as text_length, PureReport}
use Rattle.report_causes.specs.Names.{place_of}
use Rattle.report_names.specs.Named.{proof_of}
use Rattle.gillian_core.specs.Accepted.{HasProc}
use Rattle.gillian_core.specs.Answers.{question_of}
use Rattle.gillian_core.specs.Checked.{AreRightAnswers}
use Rattle.gillian_core.specs.Definitions.{Definition, Memory}
use Rattle.gillian_core.specs.Ends.{end_answer}
use Rattle.gillian_core.specs.Inferred.{AreRightFounds}
use Rattle.gillian_core.specs.Languages.{definition_of}
use Rattle.gillian_core.specs.Outputs.{PureOutput, a_report, a_program}
use Rattle.gillian_core.specs.WhileLanguage.{while_language}

-- ---- run

-- The bytes are a text with a program, and the answer is how the run of the entry ends, from the empty heap and the counter 0, on the
-- inputs and within the bound that are asked for. A text that is compiled ends so itself.
pub record IsRightRun (d : Definition) (entry : List ℕ) (bound : ℕ) (inputs : List PureValue) (bytes : List ℕ) (answer : PureAnswer) : Type 0 where
  pub program : PureParts
  pub text : d.IsText bytes program
  pub enters : IsEntry program entry
  pub ends : answer ≡ end_answer (held_run_of program d.memory.actions entry [] empty 0 inputs bound)
  pub meant : d.IsMeant bytes entry inputs answer

-- ---- test

-- no inputs make a run fail within the bound by commands of simple form alone
abbrev pub NoneFailsSimply : PureParts → Actions → List ℕ → ℕ → Type 0
NoneFailsSimply p actions entry bound = (inputs : List PureValue) → ¬ FailsSimply p actions entry inputs bound

-- `clean` is right where no run over the memory fails within the bound; `bug` where the run with these inputs fails with this value at
-- this place within the bound, and draws each of them, and those that no condition on its way names are 0, false and the empty text;
-- `unknown` where it names a query that isn't decided, and none fails by simple commands, if the memory keeps the law of plain memories.
abbrev pub IsRightVerdict : Memory → PureParts → List ℕ → ℕ → PureAnswer → Type 0
IsRightVerdict m p entry bound clean = IsClean p m.actions entry bound
IsRightVerdict m p entry bound (bug place value inputs) =
    IsBug p m.actions entry bound inputs value place × m.FindsBug p entry bound place value inputs
IsRightVerdict m p entry bound (undecided question) =
    ((q : PureQuery) × (question ≡ question_of q) × m.LeavesOpen p entry bound q)
    × (m.keeps_plain → NoneFailsSimply p m.actions entry bound)
IsRightVerdict m p entry bound _ = ⊥

-- where a text is compiled, it fails so itself on the inputs of a bug
abbrev pub IsMeantVerdict : Definition → List ℕ → List ℕ → PureAnswer → Type 0
IsMeantVerdict d bytes entry (bug place value inputs) = d.IsMeant bytes entry inputs (failed value place)
IsMeantVerdict d bytes entry _ = Unit {0}

-- The bytes are a text with a program, and the verdict is right for it and for the text itself.
pub record IsRightTest (d : Definition) (entry : List ℕ) (bound : ℕ) (bytes : List ℕ) (answer : PureAnswer) : Type 0 where
  pub program : PureParts
  pub text : d.IsText bytes program
  pub enters : IsEntry program entry
  pub verdict : IsRightVerdict d.memory program entry bound answer
  pub meant : IsMeantVerdict d bytes entry answer

-- ---- check

-- The bytes are a text with a program whose assertions can be read from left to right, and there is one answer for each of its
-- specifications, in order, which is right within the bound. A text that is compiled has the program's ends.
pub record IsRightCheck (d : Definition) (bound : ℕ) (bytes : List ℕ) (answers : List PureAnswer) : Type 0 where
  pub program : PureParts
  pub text : d.IsText bytes program
  pub keeps : d.KeepsEnds bytes program
  pub readable : HasModes program d.memory.name
  pub right : AreRightAnswers d.memory.name d.memory.actions d.memory.keeps_plain bound program answers

-- ---- infer

-- The bytes are a text with a program that has the procedure, and what is found of it within the bound is right. A text that is compiled has
-- the program's ends.
pub record IsRightInference (d : Definition) (entry : List ℕ) (bound : ℕ) (bytes : List ℕ) (answers : List PureAnswer) : Type 0 where
  pub program : PureParts
  pub text : d.IsText bytes program
  pub keeps : d.KeepsEnds bytes program
  pub has : HasProc entry program
  pub right : AreRightFounds d.memory program entry bound answers

-- ---- solve

-- `sat` is right where the variables have proper values that make every atom true; `unsat` where no proper values do, and
-- it names a proof that closes the list; `unknown` where the list isn't in the fragment, and the atom is one that keeps it out.
abbrev pub IsRightSolution : PureAtomText → PureAnswer → Type 0
IsRightSolution t (sat bindings) = (map (λ b. b.name) bindings ≡ t.names) × IsRightDecision t.vars t.atoms (decided_sat (map (λ b. b.value) bindings))
IsRightSolution t (unsat proof) =
    ((p : PureProof) × (proof ≡ proof_of t.names p) × Closes t.vars t.atoms p) × IsUnsatisfiable t.vars t.atoms
IsRightSolution t (unknown place) = (reason : Reason) × (place_of reason ≡ place) × IsRightDecision t.vars t.atoms (decided_unknown reason)
IsRightSolution t _ = ⊥

-- the bytes are a text of variables and atoms, and the solution is right for them
pub record IsSolved (bytes : List ℕ) (answer : PureAnswer) : Type 0 where
  pub solved : PureAtomText
  pub text : SpellAtoms bytes solved
  pub solution : IsRightSolution solved answer

-- ---- compile

-- the bytes are a text with this program, which has its ends
abbrev pub IsProgramOf : Definition → List ℕ → PureParts → Type 0
IsProgramOf d bytes p = d.IsText bytes p × d.KeepsEnds bytes p

-- ---- sweep

-- There are two answers: the length of the made text, and a verdict on that text in While, which is right within 10,000 steps.
abbrev pub AreRightSweep : ℕ → List PureAnswer → Type 0
AreRightSweep size answers =
    (verdict : PureAnswer) × (answers ≡ text_length (length (made_text size)) ∷ verdict ∷ [])
    × IsRightTest while_language (codes "main") 10000 (made_text size) verdict

-- nothing is looked at but the size
abbrev pub IsSwept : ℕ → PureOutput → Type 0
IsSwept size (a_report r) = (r.head ≡ Head.Sweep size) × AreRightSweep size r.answers
IsSwept size (a_program p) = ⊥

-- ---- each task

-- the report has this head and one answer, of which this holds
abbrev pub Says : PureReport → Head → (PureAnswer → Type 0) → Type 0
Says r head P = (r.head ≡ head) × ((answer : PureAnswer) × (r.answers ≡ answer ∷ []) × P answer)

-- The output is what is asked for, and right for the bytes: a report with the head of what is asked and a right answer, or the program.
abbrev pub IsRightOutput : PureTask → List ℕ → PureOutput → Type 0
IsRightOutput (run language entry bound inputs) bytes (a_report r) =
    Says r (Head.Entry Run language entry bound) (IsRightRun (definition_of language) entry bound inputs bytes)
IsRightOutput (run language entry bound inputs) bytes (a_program p) = ⊥
IsRightOutput (test language entry bound) bytes (a_report r) =
    Says r (Head.Entry Test language entry bound) (IsRightTest (definition_of language) entry bound bytes)
IsRightOutput (test language entry bound) bytes (a_program p) = ⊥
IsRightOutput (check language bound) bytes (a_report r) =
    (r.head ≡ Head.Check language bound) × IsRightCheck (definition_of language) bound bytes r.answers
IsRightOutput (check language bound) bytes (a_program p) = ⊥
IsRightOutput (infer language entry bound) bytes (a_report r) =
    (r.head ≡ Head.Entry Infer language entry bound) × IsRightInference (definition_of language) entry bound bytes r.answers
IsRightOutput (infer language entry bound) bytes (a_program p) = ⊥
IsRightOutput (compile language) bytes (a_report r) = ⊥
IsRightOutput (compile language) bytes (a_program p) = IsProgramOf (definition_of language) bytes p
IsRightOutput solve bytes (a_report r) = Says r Head.Solve (IsSolved bytes)
IsRightOutput solve bytes (a_program p) = ⊥
IsRightOutput (sweep size) bytes output = IsSwept size output
