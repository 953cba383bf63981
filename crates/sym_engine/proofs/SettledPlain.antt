-- What a decider leaves of plain candidates is plain, and none of it is unknown: their conditions are in the fragment.
use Rattle.std.proofs.Common.{◌≡◌, inl, inr, ℕ, ◌+◌, ◌<◌, ◌≤◌, ◌^◌, ℤ, List, [], ◌∷◌, length, Some, IsTrue, sym, ap, subst, ◌∙◌, arith}
use Rattle.gil_values.specs.Pure.{PureValue}
use Rattle.gil_syntax.specs.Pure.{PureParts, PureCommand, PureNumberedCommand}
use Rattle.gil_syntax.specs.Simple.{is_simple_command}
use Rattle.gil_syntax.specs.Valid.{IsValid}
use Rattle.mem_model.specs.Actions.{Actions}
use Rattle.mem_model.specs.Heaps.{Heap}
use Rattle.pure_terms.specs.Fragment.{variable_count, InFragment}
use Rattle.pure_terms.specs.Meaning.{AreOver}
use Rattle.pure_terms.specs.Pure.{PureAtom}
use Rattle.pure_terms.proofs.NamingLaws.{count_bound}
use Rattle.sym_engine.specs.Plain.{AreAllPlain, StayPlainIn}
use Rattle.sym_engine.proofs.Fragments.{each_over_all}
use Rattle.sym_model.specs.Lists.{Each, IsAmong}
use Rattle.sym_model.specs.Terms.{StateTerms}
use Rattle.sym_model.proofs.ListLaws.{same_some}
use Rattle.sym_model.proofs.Fragments.{all_forms, all_narrow}
use Rattle.sym_paths.specs.Meaning.{command_of_path}
use Rattle.sym_paths.specs.Pure.{PurePath}
use Rattle.sym_paths.specs.Settling.{Candidate, Stays, AreSettled, AreCandidates}
use Rattle.sym_paths.specs.Steps.{Grows, IsUnknown, IsPlainPath, StaysWithin, step_growth, narrow_bound}

module _ {S : Type 0} (plain : S → ℤ → ℤ → Type 0) where
  -- The conditions of a plain path are in the fragment, as long as it has made fewer than 2^39 steps.
  pub plain_in_fragment : (b : ℕ) (path : PurePath S) → b ≤ narrow_bound → path.steps < 2 ^ 39 → AreOver path.vars path.conds → IsPlainPath plain b path → InFragment path.conds
  plain_in_fragment b path narrow few over from =
      let count : variable_count path.conds ≤ length path.vars = count_bound path.vars path.conds over in
      let variables : length path.vars ≤ path.steps + 2 ^ 39 = from.few_variables in
      record {
        forms = all_forms b narrow path.conds from.conds;
        literals = all_narrow b narrow path.conds from.conds;
        few_variables = omega (arith, count, variables, few);
      }

  module _ (p : PureParts) (m : Actions) (stands : S → List PureValue → Heap → Type 0) (terms : S → StateTerms) (own by_memory : PureAtom → Type 0) (path : PurePath S) (few : path.steps < 10000) where
    abbrev Grown : Candidate S → Type 0
    Grown c = Grows terms path c.path × Each (λ a. IsAmong a c.path.conds) c.no_fault

    abbrev Known : Candidate S → Type 0
    Known c = ¬ IsUnknown c.path.ending

    stays_plain : (b : ℕ) → b ≤ narrow_bound → (c : Candidate S) (next : PurePath S) → Grown c → Known c → IsPlainPath plain b c.path → Stays p path c next → IsPlainPath plain b next × ¬ IsUnknown next.ending
    stays_plain b narrow c next grown known from (inl kept) =
        (subst (IsPlainPath plain b) (sym kept.is) from, subst (λ (q : PurePath S). ¬ IsUnknown q.ending) (sym kept.is) known)
    stays_plain b narrow c next grown known from (inr left) =
        let steps : c.path.steps ≡ path.steps + 1 = grown.0.steps in
        absurd (left.outside (plain_in_fragment b c.path narrow (omega (arith, steps, few)) (each_over_all c.path.vars c.path.conds grown.0.over.conds) from))

    all_stay : (b : ℕ) → b ≤ narrow_bound → (cs : List (Candidate S)) (nexts : List (PurePath S)) → Each Grown cs → Each Known cs → AreAllPlain plain b cs → AreSettled p path cs nexts → Each (λ next. IsPlainPath plain b next × ¬ IsUnknown next.ending) nexts
    all_stay b narrow [] nexts grown known from settled = subst (Each (λ next. IsPlainPath plain b next × ¬ IsUnknown next.ending)) (sym settled) tt
    all_stay b narrow (c ∷ cs) nexts grown known from (inl dropped) = all_stay b narrow cs nexts grown.1 known.1 from.1 dropped.1
    all_stay b narrow (c ∷ cs) nexts grown known from (inr (next, (rest, (is, stays, later)))) =
        subst (Each (λ next. IsPlainPath plain b next × ¬ IsUnknown next.ending)) (sym is)
        (stays_plain b narrow c next grown.0 known.0 from.0 stays, all_stay b narrow cs rest grown.1 known.1 from.1 later)

    -- what becomes of candidates that are plain
    pub settled_plain : (b : ℕ) → b ≤ narrow_bound → (cs : List (Candidate S)) (nexts : List (PurePath S)) → AreCandidates p m stands terms own by_memory path cs → AreAllPlain plain b cs → AreSettled p path cs nexts
        → Each (λ next. IsPlainPath plain b next × ¬ IsUnknown next.ending) nexts
    settled_plain b narrow cs nexts candidates from settled = all_stay b narrow cs nexts candidates.growth candidates.known from settled

    -- the paths of a step at a command whose candidates stay plain
    pub settled_within : (command : PureCommand) (d : PureNumberedCommand) (cs : List (Candidate S)) (nexts : List (PurePath S)) → IsValid p → command_of_path p path ≡ Some d → d.command ≡ command → AreCandidates p m stands terms own by_memory path cs
        → StayPlainIn plain p path command cs → AreSettled p path cs nexts → StaysWithin p (λ c. IsTrue (is_simple_command c)) (IsPlainPath plain) path nexts
    settled_within command d cs nexts valid there is candidates stays settled c b at simple narrow from =
        let same : c.command ≡ command = ap (λ (k : PureNumberedCommand). k.command) (same_some (sym at ∙ there)) ∙ is in
        settled_plain (b + step_growth) narrow cs nexts candidates (stays c b valid at same (subst (λ k. IsTrue (is_simple_command k)) same simple) narrow from) settled
