-- What becomes of candidates are the paths of the step.
use Rattle.std.proofs.Common.{◌≡◌, ◌⊎◌, ⊎_elim, inl, inr, List, [], ◌∷◌, ◌++◌, false, None, IsTrue, sym, ap, subst, ◌∙◌, refl, append_assoc, true≢false}
use Rattle.gil_values.specs.declared.places.Place.{Place}
use Rattle.gil_values.specs.Pure.{PureValue}
use Rattle.gil_syntax.specs.Pure.{PureParts}
use Rattle.gil_machine.specs.State.{State}
use Rattle.gil_machine.specs.Step.{step}
use Rattle.mem_model.specs.Actions.{Actions}
use Rattle.mem_model.specs.Heaps.{Heap}
use Rattle.pure_terms.specs.declared.deciders.Reason.{Reason}
use Rattle.pure_terms.specs.declared.variables.Sort.{Sort}
use Rattle.pure_terms.specs.Meaning.{IsOver, Satisfies, IsUnsatisfiable}
use Rattle.pure_terms.specs.Pure.{PureAtom, term_of}
use Rattle.sym_model.specs.Lists.{Each, OneOf, IsAmong}
use Rattle.sym_model.specs.Meaning.{has_open}
use Rattle.sym_model.specs.Terms.{StateTerms}
use Rattle.sym_model.proofs.ListLaws.{not_none, each_append, each_to, one_with}
use Rattle.sym_paths.specs.Meaning.{StandsForStep}
use Rattle.sym_paths.specs.Origins.{Follows}
use Rattle.sym_paths.specs.Pure.{unknown, PurePath}
use Rattle.sym_paths.specs.Settling.{Candidate, ended_unknown, IsLeftUnknown, Stays, AreSettled, AssumesRightly, AreCandidates}
use Rattle.sym_paths.specs.Steps.{Extends, IsUnknown, IsRightlyUnknown, Grows, IsRecorded, AddsOwn, Assumes, IsExact, ChoosesAlike, HoldsAlong, NeedsNoForm, StaysSatisfiable, AreNextPaths}
use Rattle.sym_paths.proofs.Origins.{follows_ended}
use Rattle.sym_paths.proofs.Silent.{rightly}

each_both : {A : Type 0} (P Q : A → Type 0) (xs : List A) → Each P xs → Each Q xs → Each (λ x. P x × Q x) xs
each_both P Q [] first second = tt
each_both P Q (x ∷ xs) first second = ((first.0, second.0), each_both P Q xs first.1 second.1)

over_among : (vars : List Sort) (a : PureAtom) (atoms : List PureAtom) → Each (λ b. IsOver vars (term_of b)) atoms → IsAmong a atoms → IsOver vars (term_of a)
over_among vars a atoms over among = one_with (λ b. IsOver vars (term_of b)) (λ b. b ≡ a) atoms over among (λ b is_over is. subst (λ c. IsOver vars (term_of c)) is is_over)

module _ {S : Type 0} (p : PureParts) (path : PurePath S) where
  pub each_settled : (P : Candidate S → Type 0) (Q : PurePath S → Type 0) → ((c : Candidate S) (next : PurePath S) → P c → Stays p path c next → Q next)
      → (cs : List (Candidate S)) (nexts : List (PurePath S)) → Each P cs → AreSettled p path cs nexts → Each Q nexts
  each_settled P Q go [] nexts all none = subst (Each Q) (sym none) tt
  each_settled P Q go (c ∷ cs) nexts all (inl dropped) = each_settled P Q go cs nexts all.1 dropped.1
  each_settled P Q go (c ∷ cs) nexts all (inr (next, (rest, (is, stays, later)))) =
      subst (Each Q) (sym is) (go c next all.0 stays, each_settled P Q go cs rest all.1 later)

  one_settled : (P : Candidate S → Type 0) (Q : PurePath S → Type 0) → ((c : Candidate S) → P c → IsUnsatisfiable c.path.vars c.path.conds → ⊥)
      → ((c : Candidate S) (next : PurePath S) → P c → Stays p path c next → Q next)
      → (cs : List (Candidate S)) (nexts : List (PurePath S)) → OneOf P cs → AreSettled p path cs nexts → OneOf Q nexts
  one_settled P Q drop go [] nexts one none = absurd one
  one_settled P Q drop go (c ∷ cs) nexts (inl here) (inl dropped) = absurd (drop c here dropped.0)
  one_settled P Q drop go (c ∷ cs) nexts (inr later) (inl dropped) = one_settled P Q drop go cs nexts later dropped.1
  one_settled P Q drop go (c ∷ cs) nexts (inl here) (inr (next, (rest, (is, stays, settled)))) = subst (OneOf Q) (sym is) (inl (go c next here stays))
  one_settled P Q drop go (c ∷ cs) nexts (inr later) (inr (next, (rest, (is, stays, settled)))) =
      subst (OneOf Q) (sym is) (inr (one_settled P Q drop go cs rest later settled))

module _ {S : Type 0} (p : PureParts) (m : Actions) (stands : S → List PureValue → Heap → Type 0) (terms : S → StateTerms) (own by_memory : PureAtom → Type 0) (path : PurePath S) where
  unknown_ends : (c : Candidate S) (next : PurePath S) (left : IsLeftUnknown p path c next) → IsUnknown next.ending
  unknown_ends c next left = subst (λ (n : PurePath S). IsUnknown n.ending) (sym left.is) tt

  unknown_grows : (c : Candidate S) (place : Place) (reason : Reason) → Grows terms path c.path → Each (λ a. IsAmong a c.path.conds) c.no_fault → Grows terms path (ended_unknown c place reason)
  unknown_grows c place reason g among = record {
    new_vars = g.new_vars;
    vars = g.vars;
    sorts = g.sorts;
    drawn = g.drawn;
    new_conds = g.new_conds;
    conds = g.conds;
    new_given = g.new_given ++ c.no_fault;
    given = ap (λ xs. xs ++ c.no_fault) g.given ∙ append_assoc path.given g.new_given c.no_fault;
    assumed = each_append (λ a. IsAmong a c.path.conds) g.new_given c.no_fault g.assumed among;
    chosen = g.chosen;
    choices = g.choices;
    steps = g.steps;
    over = record {
      conds = g.over.conds;
      given = each_append (λ a. IsOver c.path.vars (term_of a)) c.path.given c.no_fault g.over.given
          (each_to (λ a. IsAmong a c.path.conds) (λ a. IsOver c.path.vars (term_of a)) c.no_fault (λ a is. over_among c.path.vars a c.path.conds g.over.conds is) among);
      stores = g.over.stores;
      memory = g.over.memory;
      drawn = g.over.drawn;
      ending = tt;
    };
  }

  grows_on : (c : Candidate S) (next : PurePath S) → Grows terms path c.path × Each (λ a. IsAmong a c.path.conds) c.no_fault → Stays p path c next → Grows terms path next
  grows_on c next g (inl kept) = subst (Grows terms path) (sym kept.is) g.0
  grows_on c next g (inr left) = subst (Grows terms path) (sym left.is) (unknown_grows c left.place left.reason g.0 g.1)

  recorded_on : (c : Candidate S) (next : PurePath S) → IsRecorded p m path c.path → Stays p path c next → IsRecorded p m path next
  recorded_on c next recorded (inl kept) = subst (IsRecorded p m path) (sym kept.is) recorded
  recorded_on c next recorded (inr left) =
      subst (IsRecorded p m path) (sym left.is) (record {
        variables = λ d there. ⊎_elim inl (λ (same : (c.path.vars ≡ path.vars) × ¬ (c.path.ending ≡ None)). inr (same.0, λ going. not_none (sym going))) (recorded.variables d there);
        choice = λ d there. let (chosen, (choices, may, made)) = recorded.choice d there in (chosen, (choices, may, ⊎_elim (λ going. not_none (sym going)) (λ needs. made (inr needs))));
      })

  abbrev Covered : List PureValue → List PureValue → State → Candidate S → Type 0
  Covered inputs v s c =
      (w : List PureValue) × (Extends inputs s path c.path v w × Satisfies c.path.vars w c.path.conds
      × (StandsForStep p m stands c.path w s c.path.ending (step p m inputs s) ⊎ IsTrue (has_open c.path.conds)))

  abbrev CoveredNext : List PureValue → List PureValue → State → PurePath S → Type 0
  CoveredNext inputs v s next =
      (w : List PureValue) × (Extends inputs s path next v w
      × (StandsForStep p m stands next w s next.ending (step p m inputs s) ⊎ (IsUnknown next.ending × Satisfies next.vars w next.conds)))

  without_form : {X Y : Type 0} (c : Candidate S) → has_open c.path.conds ≡ false → X ⊎ IsTrue (has_open c.path.conds) → X ⊎ Y
  without_form c no_form (inl is) = inl is
  without_form c no_form (inr needs) = absurd (true≢false (sym needs ∙ no_form))

  covers_on : (inputs v : List PureValue) (s : State) (c : Candidate S) (next : PurePath S) → Covered inputs v s c → Stays p path c next → CoveredNext inputs v s next
  covers_on inputs v s c next (w, (ext, sat, what)) (inl kept) = subst (CoveredNext inputs v s) (sym kept.is) (w, (ext, without_form c kept.no_form what))
  covers_on inputs v s c next (w, (ext, sat, what)) (inr left) =
      subst (CoveredNext inputs v s) (sym left.is)
      (w, (record { new_vars = ext.new_vars; new_values = ext.new_values; vars = ext.vars; values = ext.values; in_turn = ext.in_turn }, inr (tt, sat)))

  exact_on : (c : Candidate S) (next : PurePath S) → (has_open c.path.conds ≡ false → IsExact p m stands path c.path) → Stays p path c next → IsExact p m stands path next
  exact_on c next exact (inl kept) = subst (IsExact p m stands path) (sym kept.is) (exact kept.no_form)
  exact_on c next exact (inr left) = λ inputs v w s is ext known meets. absurd (known (unknown_ends c next left))

  choice_on : (c : Candidate S) (next : PurePath S) → (has_open c.path.conds ≡ false → IsExact p m stands path c.path) × ¬ IsUnknown c.path.ending → Stays p path c next → ChoosesAlike p m stands path next
  choice_on c next (exact, known) (inl kept) =
      subst (ChoosesAlike p m stands path) (sym kept.is) (λ inputs v w s is ext none meets. (exact none inputs v w s is ext known meets).0)
  choice_on c next (exact, known) (inr left) =
      subst (ChoosesAlike p m stands path) (sym left.is)
      (λ inputs v w s is ext none meets. (exact none inputs v w s is
      (record { new_vars = ext.new_vars; new_values = ext.new_values; vars = ext.vars; values = ext.values; in_turn = ext.in_turn }) known
      (record { proper = meets.proper; true_there = meets.true_there })).0)

  along_on : (c : Candidate S) (next : PurePath S) → HoldsAlong p m stands path c.path × ((place : Place) (reason : Reason) → HoldsAlong p m stands path (ended_unknown c place reason))
      → Stays p path c next → HoldsAlong p m stands path next
  along_on c next along (inl kept) = subst (HoldsAlong p m stands path) (sym kept.is) along.0
  along_on c next along (inr left) = subst (HoldsAlong p m stands path) (sym left.is) (along.1 left.place left.reason)

  own_on : (c : Candidate S) (next : PurePath S) → AddsOwn own path c.path → Stays p path c next → AddsOwn own path next
  own_on c next adds (inl kept) = subst (AddsOwn own path) (sym kept.is) adds
  own_on c next adds (inr left) = subst (AddsOwn own path) (sym left.is) (record { added = adds.added; conds = adds.conds; each = adds.each })

  assumes_on : (c : Candidate S) (next : PurePath S) → AssumesRightly p own by_memory path c → Stays p path c next → Assumes p own by_memory path next
  assumes_on c next (assumes, besides) (inl kept) = subst (Assumes p own by_memory path) (sym kept.is) assumes
  assumes_on c next (assumes, besides) (inr left) = subst (Assumes p own by_memory path) (sym left.is) (besides left.place left.reason)

  origin_on : (c : Candidate S) (next : PurePath S) → (has_open c.path.conds ≡ false → Follows p m terms path c.path) → Stays p path c next → Follows p m terms path next
  origin_on c next follows (inl kept) = subst (Follows p m terms path) (sym kept.is) (follows kept.no_form)
  origin_on c next follows (inr left) =
      subst (Follows p m terms path) (sym left.is) (follows_ended p m terms path (ended_unknown c left.place left.reason) (unknown left.place left.reason) refl refl refl)

  no_form_on : (c : Candidate S) (next : PurePath S) → ¬ IsUnknown c.path.ending → Stays p path c next → NeedsNoForm path next
  no_form_on c next known (inl kept) = λ none still. subst (λ (n : PurePath S). has_open n.conds ≡ false) (sym kept.is) kept.no_form
  no_form_on c next known (inr left) = λ none still. absurd (still (unknown_ends c next left))

  satisfiable_on : (c : Candidate S) (next : PurePath S) → ¬ IsUnknown c.path.ending → Stays p path c next → StaysSatisfiable path next
  satisfiable_on c next known (inl kept) = λ v meets still. subst (λ (n : PurePath S). (w : List PureValue) × Satisfies n.vars w n.conds) (sym kept.is) (kept.met v meets)
  satisfiable_on c next known (inr left) = λ v meets still. absurd (still (unknown_ends c next left))

  rightly_on : (c : Candidate S) (next : PurePath S) → ¬ IsUnknown c.path.ending → Stays p path c next → IsRightlyUnknown p path next next.ending
  rightly_on c next known (inl kept) = rightly p path next next.ending (subst (λ (n : PurePath S). ¬ IsUnknown n.ending) (sym kept.is) known)
  rightly_on c next known (inr left) = subst (λ (n : PurePath S). IsRightlyUnknown p path n n.ending) (sym left.is) (left.outside, left.first, left.at, left.asks)

  pub settled_are_next : (cs : List (Candidate S)) (nexts : List (PurePath S)) → AreCandidates p m stands terms own by_memory path cs → AreSettled p path cs nexts → AreNextPaths p m stands terms own by_memory path nexts
  settled_are_next cs nexts laws settled = record {
    growth = each_settled p path (λ c. Grows terms path c.path × Each (λ a. IsAmong a c.path.conds) c.no_fault) (Grows terms path) grows_on cs nexts laws.growth settled;
    recorded = each_settled p path (λ c. IsRecorded p m path c.path) (IsRecorded p m path) recorded_on cs nexts laws.recorded settled;
    cover = λ inputs v s is has. one_settled p path (Covered inputs v s) (CoveredNext inputs v s) (λ c covered unmet. unmet covered.0 covered.1.1) (covers_on inputs v s) cs nexts (laws.cover inputs v s is has) settled;
    exact = each_settled p path (λ c. has_open c.path.conds ≡ false → IsExact p m stands path c.path) (IsExact p m stands path) exact_on cs nexts laws.exact settled;
    choices = each_settled p path (λ c. (has_open c.path.conds ≡ false → IsExact p m stands path c.path) × ¬ IsUnknown c.path.ending) (ChoosesAlike p m stands path) choice_on cs nexts
        (each_both (λ c. has_open c.path.conds ≡ false → IsExact p m stands path c.path) (λ c. ¬ IsUnknown c.path.ending) cs laws.exact laws.known) settled;
    along = each_settled p path (λ c. HoldsAlong p m stands path c.path × ((place : Place) (reason : Reason) → HoldsAlong p m stands path (ended_unknown c place reason))) (HoldsAlong p m stands path) along_on cs nexts laws.along settled;
    own_conditions = each_settled p path (λ c. AddsOwn own path c.path) (AddsOwn own path) own_on cs nexts laws.own_conditions settled;
    assumes = each_settled p path (AssumesRightly p own by_memory path) (Assumes p own by_memory path) assumes_on cs nexts laws.assumes settled;
    origin = each_settled p path (λ c. has_open c.path.conds ≡ false → Follows p m terms path c.path) (Follows p m terms path) origin_on cs nexts laws.origin settled;
    no_form = each_settled p path (λ c. ¬ IsUnknown c.path.ending) (NeedsNoForm path) no_form_on cs nexts laws.known settled;
    satisfiable = each_settled p path (λ c. ¬ IsUnknown c.path.ending) (StaysSatisfiable path) satisfiable_on cs nexts laws.known settled;
    unknown_rightly = each_settled p path (λ c. ¬ IsUnknown c.path.ending) (λ next. IsRightlyUnknown p path next next.ending) rightly_on cs nexts laws.known settled;
  }
