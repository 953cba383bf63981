-- What the answer of leaves says.
use Rattle.std.proofs.Common.{◌≡◌, ⊎_elim, List, [], ◌∷◌, ◌++◌, IsTrue, sym, subst}
use Rattle.gil_values.specs.Pure.{PureValue}
use Rattle.gil_syntax.specs.Evaluation.{Store}
use Rattle.mem_model.specs.Heaps.{Heap}
use Rattle.assert_logic.specs.LogicStates.{LogicState}
use Rattle.pure_terms.specs.declared.variables.Sort.{Sort}
use Rattle.pure_terms.specs.Meaning.{all_true, IsProper, AreOver, IsUnsatisfiable}
use Rattle.pure_terms.specs.Pure.{PureAtom}
use Rattle.sym_paths.specs.Asking.{IsSolution, IsOutside}
use Rattle.sym_paths.proofs.AskedFragments.{each_over_all}
use Rattle.sym_model.specs.Lists.{Each, OneOf}
use Rattle.sym_model.specs.Terms.{StateTerms}
use Rattle.sym_model.proofs.ListLaws.{each_append, each_to, one_left, one_right, one_with}
use Rattle.sym_states.specs.Pure.{PureState}
use Rattle.footprint.specs.Answers.{PureTold, met, outside, never, TellsStops, first_told, AnswersTold, AnswersLeaves}
use Rattle.footprint.specs.Leaves.{IsLonger, Premise, Giving, Stopping, IsStop, IsUndecided, AreLeaves, IsUnmatched, IsAnswer}
use Rattle.footprint.specs.Pure.{PureStop, PureLeaves, PureMatching, unknown}

-- ---- stops one after another

pub tells_none : (vars : List Sort) → TellsStops vars [] never
tells_none vars = tt

pub tells_more : (vars : List Sort) (cs ds : List PureStop) (t u : PureTold) → TellsStops vars cs t → TellsStops vars ds u → TellsStops vars (cs ++ ds) (first_told t u)
tells_more vars cs ds (met c v) u first second = one_left (λ d. (d ≡ c) × IsSolution vars c.conds v) cs ds first
tells_more vars cs ds (outside w) (met c v) first second = one_right (λ d. (d ≡ c) × IsSolution vars c.conds v) cs ds second
tells_more vars cs ds (outside w) (outside x) first second = one_left (λ c. (c.conds ≡ w.conds) × IsOutside w.conds w.reason) cs ds first
tells_more vars cs ds (outside w) never first second = one_left (λ c. (c.conds ≡ w.conds) × IsOutside w.conds w.reason) cs ds first
tells_more vars cs ds never (met c v) first second = one_right (λ d. (d ≡ c) × IsSolution vars c.conds v) cs ds second
tells_more vars cs ds never (outside w) first second = one_right (λ c. (c.conds ≡ w.conds) × IsOutside w.conds w.reason) cs ds second
tells_more vars cs ds never never first second = each_append (λ c. IsUnsatisfiable vars c.conds) cs ds first second

module _ {S : Type 0} (stands : S → List PureValue → Heap → Type 0) (terms : S → StateTerms) (kept : S → Type 0) (s : PureState S) (If : Premise) (Gives : Giving) (Stops : Stopping)
    (leaves : PureLeaves S) (are : AreLeaves stands terms kept s If Gives Stops leaves) where
  -- the conditions of stops name only variables of the table
  pub stops_over : Each (λ c. AreOver s.vars c.conds) leaves.stopped
  stops_over = each_to (IsStop stands terms kept s If Stops) (λ c. AreOver s.vars c.conds) leaves.stopped (λ c is. each_over_all s.vars c.conds is.over) are.stopped

  module _ (proper : (v : List PureValue) (t : Store) (l : LogicState) → If v t l → IsProper s.vars v) where
    is_unmatched : (c : PureStop) (v : List PureValue) (d : PureStop) → IsStop stands terms kept s If Stops d → (d ≡ c) × IsSolution s.vars c.conds v → IsUnmatched stands terms kept s If Stops c v
    is_unmatched c v d is (same, solution) = record {
      stop = subst (IsStop stands terms kept s If Stops) same is;
      meets = solution.meets;
      no_form = solution.no_form;
    }

    is_unknown : (c : PureStop) (conds : List PureAtom) → IsStop stands terms kept s If Stops c → c.conds ≡ conds → IsLonger s.conds conds
    is_unknown c conds is same = subst (IsLonger s.conds) same is.longer

    none_met : (v : List PureValue) (cs : List PureStop) → IsProper s.vars v → Each (λ c. IsUnsatisfiable s.vars c.conds) cs → OneOf (λ c. IsTrue (all_true v c.conds)) cs → ⊥
    none_met v [] is all one = one
    none_met v (c ∷ cs) is all one = ⊎_elim (λ here. all.0 v (record { proper = is; true_there = here })) (λ later. none_met v cs is all.1 later) one

    by_told : (told : PureTold) (answer : PureMatching S) → TellsStops s.vars leaves.stopped told → AnswersTold told leaves.matched leaves.undecided answer → IsAnswer stands terms kept s If Gives Stops answer
    by_told (met c v) answer tells is =
        subst (IsAnswer stands terms kept s If Gives Stops) (sym is)
        (one_with (IsStop stands terms kept s If Stops) (λ d. (d ≡ c) × IsSolution s.vars c.conds v) leaves.stopped are.stopped tells (λ d stop said. is_unmatched c v d stop said))
    by_told (outside u) answer tells is =
        subst (IsAnswer stands terms kept s If Gives Stops) (sym is)
        (one_with (IsStop stands terms kept s If Stops) (λ c. (c.conds ≡ u.conds) × IsOutside u.conds u.reason) leaves.stopped are.stopped tells
        (λ c stop (same, out). (is_unknown c u.conds stop same, out)))
    by_told never answer tells is = ⊎_elim
        (λ (none, all). subst (IsAnswer stands terms kept s If Gives Stops) (sym all) (record {
          cover = λ v t l holds. ⊎_elim (λ found. found)
              (λ other. absurd (⊎_elim (λ stop. none_met v leaves.stopped (proper v t l holds) tells stop)
              (λ und. subst (λ us. OneOf (λ u. IsTrue (all_true v u.conds)) us) none und) other)) (are.cover v t l holds);
          matched = are.matched;
        }))
        (λ one. one_with (IsUndecided stands terms kept s If) (λ u. answer ≡ unknown u.conds u.reason) leaves.undecided are.undecided one
        (λ u und same. subst (IsAnswer stands terms kept s If Gives Stops) (sym same) (und.longer, und.outside))) is

    pub leaves_answer : (answer : PureMatching S) → AnswersLeaves s.vars leaves answer → IsAnswer stands terms kept s If Gives Stops answer
    leaves_answer answer (told, (tells, is)) = by_told told answer tells is
