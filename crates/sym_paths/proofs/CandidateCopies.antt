-- Copies of candidates are candidates.
use Rattle.std.proofs.Common.{◌≡◌, ◌⊎◌, ⊎_elim, inl, inr, List, [], ◌∷◌, false, Option, Some, None, IsTrue, ℕ, ℤ, sym, subst, ◌∙◌}
use Rattle.gil_values.specs.declared.places.Place.{Place}
use Rattle.gil_values.specs.Pure.{PureValue}
use Rattle.gil_syntax.specs.Pure.{PureParts, PureCommand, vanish, usym, isym, assign, call, act, ifgoto, return, fail, throw, fold_use, unfold_use, assert_that, loop_invariant}
use Rattle.gil_machine.specs.State.{State, Step, goes_on, ends}
use Rattle.gil_machine.specs.Step.{step}
use Rattle.mem_model.specs.Actions.{Actions}
use Rattle.mem_model.specs.Heaps.{Heap}
use Rattle.pure_terms.specs.declared.deciders.Reason.{Reason}
use Rattle.pure_terms.specs.Meaning.{Satisfies}
use Rattle.pure_terms.specs.Pure.{PureTerm, PureAtom}
use Rattle.sym_model.specs.Laws.{IsCopy}
use Rattle.sym_model.specs.Lists.{Each, OneOf, IsAmong}
use Rattle.sym_model.specs.Meaning.{has_open}
use Rattle.sym_model.specs.Terms.{StateTerms, all_of, AreEachOver}
use Rattle.sym_paths.specs.Meaning.{StandsForStep}
use Rattle.sym_paths.specs.Origins.{IsAnswered, GoesOnFrom, Follows}
use Rattle.sym_paths.specs.Pure.{PureEnd, PurePath}
use Rattle.sym_paths.specs.Settling.{Candidate, ended_unknown, AssumesRightly, AreCandidates}
use Rattle.sym_paths.specs.Steps.{Extends, IsUnknown, Grows, IsRecorded, AddsOwn, IsExact, HoldsAlong}
use Rattle.sym_paths.specs.Copies.{IsCopied, AreCopied}

module _ {S : Type 0} (stands : S → List PureValue → Heap → Type 0) (terms : S → StateTerms) (depends : S → List ℕ → List PureTerm → List PureValue → Heap → PureTerm → Type 0) (plain : S → ℤ → ℤ → Type 0) where
  abbrev with_memory : PurePath S → S → PurePath S
  with_memory path state = record path { memory = state }

  abbrev copied : Candidate S → S → Candidate S
  copied c state = record { path = with_memory c.path state; no_fault = c.no_fault }

  -- what holds of candidates with copied memories holds of the copies
  copy_to : (P : Candidate S → Type 0) (c d : Candidate S) → IsCopied stands terms depends plain c d → P (copied c d.path.memory) → P d
  copy_to P c d is there = subst P (λ i. record { path = sym is.path i; no_fault = sym is.no_fault i }) there

  each_copied : (P Q : Candidate S → Type 0) → ((c : Candidate S) (state : S) → IsCopy stands terms depends plain c.path.memory state → P c → Q (copied c state))
      → (cs ds : List (Candidate S)) → Each P cs → AreCopied stands terms depends plain cs ds → Each Q ds
  each_copied P Q go [] ds all none = subst (Each Q) (sym none) tt
  each_copied P Q go (c ∷ cs) ds all (d, (rest, (is, copy, later))) =
      subst (Each Q) (sym is) (copy_to Q c d copy (go c d.path.memory copy.memory all.0), each_copied P Q go cs rest all.1 later)

  one_copied : (P Q : Candidate S → Type 0) → ((c : Candidate S) (state : S) → IsCopy stands terms depends plain c.path.memory state → P c → Q (copied c state))
      → (cs ds : List (Candidate S)) → OneOf P cs → AreCopied stands terms depends plain cs ds → OneOf Q ds
  one_copied P Q go [] ds one none = absurd one
  one_copied P Q go (c ∷ cs) ds one (d, (rest, (is, copy, later))) =
      subst (OneOf Q) (sym is) (⊎_elim (λ here. inl (copy_to Q c d copy (go c d.path.memory copy.memory here))) (λ other. inr (one_copied P Q go cs rest other later)) one)

  module _ (p : PureParts) (m : Actions) (path : PurePath S) (state : S) (copy : IsCopy stands terms depends plain path.memory state) where
    step_copied : (w : List PureValue) (s : State) (o : Option PureEnd) (r : Step) → StandsForStep p m stands path w s o r → StandsForStep p m stands (with_memory path state) w s o r
    step_copied w s None (goes_on t) is = record {
      proper = is.proper;
      meets = is.meets;
      frames = is.frames;
      memory = (copy.stands_for w t.heap).0 is.memory;
      symbols_below = is.symbols_below;
      draws = is.draws;
    }
    step_copied w s (Some how) (ends e) is = record {
      proper = is.proper;
      meets = is.meets;
      ending = is.ending;
      memory = (copy.stands_for w e.heap).0 is.memory;
      symbols_below = is.symbols_below;
      draws = is.draws;
    }
    step_copied w s None (ends e) is = absurd is
    step_copied w s (Some how) (goes_on t) is = absurd is

  extends_old : (inputs : List PureValue) (s : State) (path next : PurePath S) (state : S) (v w : List PureValue) → Extends inputs s path (with_memory next state) v w → Extends inputs s path next v w
  extends_old inputs s path next state v w ext = record { new_vars = ext.new_vars; new_values = ext.new_values; vars = ext.vars; values = ext.values; in_turn = ext.in_turn }

  extends_copy : (inputs : List PureValue) (s : State) (path next : PurePath S) (state : S) (v w : List PureValue) → Extends inputs s path next v w → Extends inputs s path (with_memory next state) v w
  extends_copy inputs s path next state v w ext = record { new_vars = ext.new_vars; new_values = ext.new_values; vars = ext.vars; values = ext.values; in_turn = ext.in_turn }

  module _ (p : PureParts) (m : Actions) (own by_memory : PureAtom → Type 0) (path : PurePath S) where
    abbrev Grown : Candidate S → Type 0
    Grown c = Grows terms path c.path × Each (λ a. IsAmong a c.path.conds) c.no_fault

    grows_copied : (c : Candidate S) (state : S) → IsCopy stands terms depends plain c.path.memory state → Grown c → Grown (copied c state)
    grows_copied c state copy (g, no_fault) = (
      record {
        new_vars = g.new_vars;
        vars = g.vars;
        sorts = g.sorts;
        drawn = g.drawn;
        new_conds = g.new_conds;
        conds = g.conds;
        new_given = g.new_given;
        given = g.given;
        assumed = g.assumed;
        chosen = g.chosen;
        choices = g.choices;
        steps = g.steps;
        over = record {
          conds = g.over.conds;
          given = g.over.given;
          stores = g.over.stores;
          memory = subst (λ ts. AreEachOver c.path.vars (all_of ts)) (sym copy.same_terms) g.over.memory;
          drawn = g.over.drawn;
          ending = g.over.ending;
        };
      },
      no_fault,
    )

    abbrev Covered : List PureValue → List PureValue → State → Candidate S → Type 0
    Covered inputs v s c =
        (w : List PureValue) × (Extends inputs s path c.path v w × Satisfies c.path.vars w c.path.conds
        × (StandsForStep p m stands c.path w s c.path.ending (step p m inputs s) ⊎ IsTrue (has_open c.path.conds)))

    covers_copied : (inputs v : List PureValue) (s : State) (c : Candidate S) (state : S) → IsCopy stands terms depends plain c.path.memory state → Covered inputs v s c → Covered inputs v s (copied c state)
    covers_copied inputs v s c state copy (w, (ext, sat, what)) =
        (w, (extends_copy inputs s path c.path state v w ext, sat, ⊎_elim (λ is. inl (step_copied p m c.path state copy w s c.path.ending (step p m inputs s) is)) inr what))

    abbrev Exact : Candidate S → Type 0
    Exact c = has_open c.path.conds ≡ false → IsExact p m stands path c.path

    exact_copied : (c : Candidate S) (state : S) → IsCopy stands terms depends plain c.path.memory state → Exact c → Exact (copied c state)
    exact_copied c state copy exact none inputs v w s is ext known sat =
        let (which, there) = exact none inputs v w s is (extends_old inputs s path c.path state v w ext) known sat in
        (which, step_copied p m c.path state copy w s c.path.ending (step p m inputs s) there)

    abbrev Along : Candidate S → Type 0
    Along c = HoldsAlong p m stands path c.path × ((place : Place) (reason : Reason) → HoldsAlong p m stands path (ended_unknown c place reason))

    along_copied : (c : Candidate S) (state : S) → IsCopy stands terms depends plain c.path.memory state → Along c → Along (copied c state)
    along_copied c state copy (along, unknown) = (
      λ inputs v w s is ext sat which goes. along inputs v w s is (extends_old inputs s path c.path state v w ext) sat which goes,
      λ place reason inputs v w s is ext sat which goes. unknown place reason inputs v w s is (extends_old inputs s path (ended_unknown c place reason) state v w ext) sat which goes,
    )

    own_copied : (c : Candidate S) (state : S) → IsCopy stands terms depends plain c.path.memory state → AddsOwn own path c.path → AddsOwn own path (with_memory c.path state)
    own_copied c state copy adds = record { added = adds.added; conds = adds.conds; each = adds.each }

    assumes_copied : (c : Candidate S) (state : S) → IsCopy stands terms depends plain c.path.memory state → AssumesRightly p own by_memory path c → AssumesRightly p own by_memory path (copied c state)
    assumes_copied c state copy (assumes, unknown) = (
      record { added = assumes.added; given = assumes.given; each = assumes.each; kept = assumes.kept },
      λ place reason. let besides = unknown place reason in record { added = besides.added; given = besides.given; each = besides.each; kept = besides.kept },
    )

    -- the terms of a memory are those of its copy
    going_copied : (c : Candidate S) (state : S) → terms state ≡ terms c.path.memory → (k : PureCommand) → GoesOnFrom p m terms path c.path k → GoesOnFrom p m terms path (with_memory c.path state) k
    going_copied c state same (assign x e) (keeps, has) = (same ∙ keeps, has)
    going_copied c state same (usym x) (keeps, has) = (same ∙ keeps, has)
    going_copied c state same (isym x k) (keeps, has) = (same ∙ keeps, has)
    going_copied c state same (ifgoto e i) (keeps, has) = (same ∙ keeps, has)
    going_copied c state same (fold_use u) (keeps, has) = (same ∙ keeps, has)
    going_copied c state same (unfold_use u) (keeps, has) = (same ∙ keeps, has)
    going_copied c state same (assert_that items) (keeps, has) = (same ∙ keeps, has)
    going_copied c state same (loop_invariant xs ps items) (keeps, has) = (same ∙ keeps, has)
    going_copied c state same (call x e es handler) (keeps, has) = (
      same ∙ keeps,
      record {
        callee = has.callee;
        named = has.named;
        procedure = has.procedure;
        found = has.found;
        args = has.args;
        from = has.from;
        store = has.store;
        first = has.first;
        stack = has.stack;
      },
    )
    going_copied c state same (return e) (keeps, has) = (
      same ∙ keeps,
      record {
        frame = has.frame;
        caller = has.caller;
        callers = has.callers;
        stack = has.stack;
        term = has.term;
        from = has.from;
        resumed = has.resumed;
        resumes = has.resumes;
        next_stack = has.next_stack;
      },
    )
    going_copied c state same (throw e) (keeps, has) = (
      same ∙ keeps,
      record { frame = has.frame; callers = has.callers; stack = has.stack; term = has.term; from = has.from; catches = has.catches },
    )
    going_copied c state same (act x action es) is = record {
      args = is.args;
      from = is.from;
      result = is.result;
      made = is.made;
      has_now = is.has_now;
      memory = subst (λ ts. Each (IsAnswered m terms path action is.args) (all_of ts)) (sym same) is.memory;
    }
    going_copied c state same (fail e) is = absurd is
    going_copied c state same vanish is = absurd is

    abbrev Origin : Candidate S → Type 0
    Origin c = has_open c.path.conds ≡ false → Follows p m terms path c.path

    origin_copied : (c : Candidate S) (state : S) → IsCopy stands terms depends plain c.path.memory state → Origin c → Origin (copied c state)
    origin_copied c state copy origin none = record {
      going = λ k at still. going_copied c state copy.same_terms k.command ((origin none).going k at still);
      failing = (origin none).failing;
      throwing = (origin none).throwing;
    }

    pub copies_keep_the_laws : (cs ds : List (Candidate S)) → AreCandidates p m stands terms own by_memory path cs → AreCopied stands terms depends plain cs ds → AreCandidates p m stands terms own by_memory path ds
    copies_keep_the_laws cs ds laws copies = record {
      growth = each_copied Grown Grown grows_copied cs ds laws.growth copies;
      recorded = each_copied (λ c. IsRecorded p m path c.path) (λ c. IsRecorded p m path c.path) (λ c state copy recorded. record { variables = recorded.variables; choice = recorded.choice }) cs ds laws.recorded copies;
      known = each_copied (λ c. ¬ IsUnknown c.path.ending) (λ c. ¬ IsUnknown c.path.ending) (λ c state copy known. known) cs ds laws.known copies;
      cover = λ inputs v s is has. one_copied (Covered inputs v s) (Covered inputs v s) (covers_copied inputs v s) cs ds (laws.cover inputs v s is has) copies;
      exact = each_copied Exact Exact exact_copied cs ds laws.exact copies;
      along = each_copied Along Along along_copied cs ds laws.along copies;
      own_conditions = each_copied (λ c. AddsOwn own path c.path) (λ c. AddsOwn own path c.path) own_copied cs ds laws.own_conditions copies;
      assumes = each_copied (AssumesRightly p own by_memory path) (AssumesRightly p own by_memory path) assumes_copied cs ds laws.assumes copies;
      origin = each_copied Origin Origin origin_copied cs ds laws.origin copies;
    }
