-- Paths with the same variables and conditions need the same literal forms.
use Rattle.std.proofs.Common.{◌≡◌, ℕ, inl, inr, List, Some, IsTrue, sym, subst, ◌∙◌}
use Rattle.gil_values.specs.Pure.{PureValue}
use Rattle.gil_syntax.specs.Pure.{PureParts, PureExpr, PureCommand, PureNumberedCommand, vanish, usym, isym, assign, call, act, ifgoto, return, fail, throw, fold_use, unfold_use, assert_that, loop_invariant}
use Rattle.mem_model.specs.Heaps.{Heap}
use Rattle.pure_terms.specs.declared.variables.Sort.{Sort}
use Rattle.pure_terms.specs.Meaning.{all_true, IsProper}
use Rattle.pure_terms.specs.Pure.{PureTerm}
use Rattle.sym_model.specs.Lists.{Each}
use Rattle.sym_model.proofs.ListLaws.{same_some, each_to}
use Rattle.sym_paths.specs.Forms.{OpensOnly, Matters, NeedsOnly, NeedsAt, NeedsWhatMatters}
use Rattle.sym_paths.specs.Meaning.{command_of_path}
use Rattle.sym_paths.specs.Pure.{PurePath}
use Rattle.sym_paths.specs.Settling.{Candidate, Stays, AreSettled}
use Rattle.sym_paths.proofs.Settled.{each_settled}

module _ {S : Type 0} (p : PureParts) (stands : S → List PureValue → Heap → Type 0) (depends : S → List ℕ → List PureTerm → List PureValue → Heap → PureTerm → Type 0) (path : PurePath S) where
  abbrev Needs : PurePath S → Type 0
  Needs = NeedsWhatMatters p stands depends path

  -- ---- the same variables and conditions

  module _ (next other : PurePath S) (vars : other.vars ≡ next.vars) (conds : other.conds ≡ next.conds) where
    still_matters : (action : List ℕ) (es : List PureExpr) (t : PureTerm) → Matters p stands depends path next action es t → Matters p stands depends path other action es t
    still_matters action es t (args, (from, matters)) = (
      args,
      (
        from,
        λ inputs v w s is ext sat. matters inputs v w s is
            (record { new_vars = ext.new_vars; new_values = ext.new_values; vars = sym vars ∙ ext.vars; values = ext.values; in_turn = ext.in_turn })
            (record { proper = subst (λ (sorts : List Sort). IsProper sorts w) vars sat.proper; true_there = subst (λ atoms. IsTrue (all_true w atoms)) conds sat.true_there }),
      ),
    )

    still_only : (action : List ℕ) (es : List PureExpr) → NeedsOnly p stands depends path next action es → NeedsOnly p stands depends path other action es
    still_only action es needs = record {
      added = needs.added;
      conds = conds ∙ needs.conds;
      each = each_to (OpensOnly (Matters p stands depends path next action es)) (OpensOnly (Matters p stands depends path other action es)) needs.added
          (λ a only t is. still_matters action es t (only t is)) needs.each;
    }

    still_at : (k : PureCommand) → NeedsAt p stands depends path next k → NeedsAt p stands depends path other k
    still_at (act x action es) needs = still_only action es needs
    still_at vanish needs = tt
    still_at (usym x) needs = tt
    still_at (isym x k) needs = tt
    still_at (assign x e) needs = tt
    still_at (call x e es handler) needs = tt
    still_at (ifgoto e i) needs = tt
    still_at (return e) needs = tt
    still_at (fail e) needs = tt
    still_at (throw e) needs = tt
    still_at (fold_use u) needs = tt
    still_at (unfold_use u) needs = tt
    still_at (assert_that items) needs = tt
    still_at (loop_invariant xs ps items) needs = tt

    pub needs_alike : Needs next → Needs other
    needs_alike needs c at = still_at c.command (needs c at)

  -- ---- at one command

  pub needs_at : (c : PureNumberedCommand) (k : PureCommand) → command_of_path p path ≡ Some c → c.command ≡ k → (next : PurePath S) → NeedsAt p stands depends path next k → Needs next
  needs_at c k at command next needs d there =
      subst (λ (e : PureNumberedCommand). NeedsAt p stands depends path next e.command) (same_some (sym at ∙ there)) (subst (NeedsAt p stands depends path next) (sym command) needs)

  -- ---- what a decider makes of candidates

  needs_on : (c : Candidate S) (next : PurePath S) → Needs c.path → Stays p path c next → Needs next
  needs_on c next needs (inl kept) = subst Needs (sym kept.is) needs
  needs_on c next needs (inr left) = needs_alike c.path next (λ i. (left.is i).vars) (λ i. (left.is i).conds) needs

  pub settled_needs : (cs : List (Candidate S)) (nexts : List (PurePath S)) → Each (λ c. Needs c.path) cs → AreSettled p path cs nexts → Each Needs nexts
  settled_needs cs nexts needs settled = each_settled p path (λ c. Needs c.path) Needs needs_on cs nexts needs settled
