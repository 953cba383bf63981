-- What a decider leaves of narrow candidates is narrow, and none of it is unknown: their conditions are in the fragment.
use Rattle.std.proofs.Common.{◌≡◌, inl, inr, ℕ, ◌+◌, ◌<◌, ◌≤◌, ◌^◌, List, [], ◌∷◌, length, Some, IsTrue, sym, ap, subst, ◌∙◌, arith}
use Rattle.gil_values.specs.Pure.{PureValue}
use Rattle.gil_syntax.specs.Pure.{PureParts, PureCommand, PureNumberedCommand}
use Rattle.gil_syntax.specs.Simple.{is_narrow_command}
use Rattle.gil_syntax.specs.Valid.{IsValid}
use Rattle.mem_model.specs.Actions.{Actions}
use Rattle.mem_model.specs.Heaps.{Heap}
use Rattle.pure_terms.specs.Fragment.{variable_count, InFragment}
use Rattle.pure_terms.specs.Meaning.{AreOver}
use Rattle.pure_terms.specs.Pure.{PureAtom}
use Rattle.pure_terms.proofs.NamingLaws.{count_bound}
use Rattle.sym_engine.specs.Narrow.{narrow_growth, IsNarrowPath, AreAllNarrow, StayNarrowIn, StaysNarrow}
use Rattle.sym_engine.proofs.Fragments.{each_over_all}
use Rattle.sym_model.proofs.Fragments.{all_forms, all_narrow}
use Rattle.sym_model.specs.Lists.{Each, IsAmong}
use Rattle.sym_model.specs.Terms.{StateTerms}
use Rattle.sym_model.proofs.ListLaws.{same_some}
use Rattle.sym_paths.specs.Meaning.{IsOverTable, command_of_path}
use Rattle.sym_paths.specs.Pure.{PurePath}
use Rattle.sym_paths.specs.Settling.{Candidate, Stays, AreSettled, AreCandidates}
use Rattle.sym_paths.specs.Steps.{Grows, IsUnknown, narrow_bound}

module _ {S : Type 0} (terms : S → StateTerms) where
  -- The conditions of a narrow path are in the fragment, as long as it has made fewer than 2^39 steps.
  pub narrow_in_fragment : (b : ℕ) (path : PurePath S) → b ≤ narrow_bound → path.steps < 2 ^ 39 → AreOver path.vars path.conds → IsNarrowPath terms b path → InFragment path.conds
  narrow_in_fragment b path narrow few over from =
      let count : variable_count path.conds ≤ length path.vars = count_bound path.vars path.conds over in
      let variables : length path.vars ≤ path.steps + 2 ^ 39 = from.few_variables in
      record {
        forms = all_forms b narrow path.conds from.conds;
        literals = all_narrow b narrow path.conds from.conds;
        few_variables = omega (arith, count, variables, few);
      }

  module _ (p : PureParts) (m : Actions) (stands : S → List PureValue → Heap → Type 0) (own by_memory : PureAtom → Type 0) (path : PurePath S) (few : path.steps < 10000) where
    abbrev Grown : Candidate S → Type 0
    Grown c = Grows terms path c.path × Each (λ a. IsAmong a c.path.conds) c.no_fault

    abbrev Known : Candidate S → Type 0
    Known c = ¬ IsUnknown c.path.ending

    abbrev IsKnownNarrow : ℕ → PurePath S → Type 0
    IsKnownNarrow b next = IsNarrowPath terms b next × ¬ IsUnknown next.ending

    stays_narrow : (b : ℕ) → b ≤ narrow_bound → (c : Candidate S) (next : PurePath S) → Grown c → Known c → IsNarrowPath terms b c.path → Stays p path c next → IsKnownNarrow b next
    stays_narrow b narrow c next grown known from (inl kept) =
        (subst (IsNarrowPath terms b) (sym kept.is) from, subst (λ (q : PurePath S). ¬ IsUnknown q.ending) (sym kept.is) known)
    stays_narrow b narrow c next grown known from (inr left) =
        let steps : c.path.steps ≡ path.steps + 1 = grown.0.steps in
        absurd (left.outside (narrow_in_fragment b c.path narrow (omega (arith, steps, few)) (each_over_all c.path.vars c.path.conds grown.0.over.conds) from))

    all_stay : (b : ℕ) → b ≤ narrow_bound → (cs : List (Candidate S)) (nexts : List (PurePath S)) → Each Grown cs → Each Known cs → AreAllNarrow terms b cs → AreSettled p path cs nexts → Each (IsKnownNarrow b) nexts
    all_stay b narrow [] nexts grown known from settled = subst (Each (IsKnownNarrow b)) (sym settled) tt
    all_stay b narrow (c ∷ cs) nexts grown known from (inl dropped) = all_stay b narrow cs nexts grown.1 known.1 from.1 dropped.1
    all_stay b narrow (c ∷ cs) nexts grown known from (inr (next, (rest, (is, stays, later)))) =
        subst (Each (IsKnownNarrow b)) (sym is) (stays_narrow b narrow c next grown.0 known.0 from.0 stays, all_stay b narrow cs rest grown.1 known.1 from.1 later)

    -- the paths of a step at a command whose candidates stay narrow
    pub settled_narrow : (command : PureCommand) (d : PureNumberedCommand) (cs : List (Candidate S)) (nexts : List (PurePath S)) → IsValid p → IsOverTable terms path → command_of_path p path ≡ Some d → d.command ≡ command → AreCandidates p m stands terms own by_memory path cs
        → StayNarrowIn terms p path command cs → AreSettled p path cs nexts → StaysNarrow p terms path nexts
    settled_narrow command d cs nexts valid over there is candidates stays settled c b at form enough narrow from =
        let same : c.command ≡ command = ap (λ (k : PureNumberedCommand). k.command) (same_some (sym at ∙ there)) ∙ is in
        all_stay (b + narrow_growth) narrow cs nexts candidates.growth candidates.known (stays c b valid over at same (subst (λ k. IsTrue (is_narrow_command k)) same form) enough from) settled
