-- Checked runs follow trails, and their commands may ask the conditions that are added on the way.
use Rattle.std.proofs.Common.{◌≡◌, ℕ, zero, suc, ◌+◌, List, [], ◌∷◌, ◌++◌, refl, sym, ap, subst, ◌∙◌, arith, append-nil, append_assoc}
use Rattle.std.proofs.lemmas.List.{append_cancel_left}
use Rattle.gil_values.specs.Pure.{PureValue}
use Rattle.gil_syntax.specs.Pure.{PureParts}
use Rattle.gil_syntax.specs.Valid.{param_names}
use Rattle.gil_machine.specs.Choices.{with_choice}
use Rattle.mem_model.specs.declared.keys.MemoryName.{MemoryName}
use Rattle.mem_model.specs.Actions.{Actions}
use Rattle.mem_model.specs.Heaps.{Heap}
use Rattle.checked_runs.specs.Checked.{Checked, Entry, names_at}
use Rattle.checked_runs.specs.Specifications.{entry_store}
use Rattle.pure_terms.specs.declared.variables.Sort.{Sort}
use Rattle.pure_terms.specs.Meaning.{IsOver, Satisfies}
use Rattle.pure_terms.specs.Pure.{PureAtom}
use Rattle.sym_evaluation.specs.Meaning.{StandsFor, IsStoreOver}
use Rattle.sym_model.specs.Laws.{IsMeaning}
use Rattle.sym_model.specs.Lists.{Each}
use Rattle.sym_model.specs.Terms.{StateTerms}
use Rattle.sym_model.proofs.ListLaws.{each_to}
use Rattle.sym_states.proofs.NamingLaws.{store_longer}
use Rattle.sym_paths.specs.Frames.{running_store}
use Rattle.sym_paths.specs.Steps.{counter_past, fresh_count}
use Rattle.sym_paths.proofs.Moving.{running_stands, running_each}
use Rattle.sym_paths.proofs.Recording.{past_is, fresh_append}
use Rattle.sym_paths.proofs.Silent.{stands_at}
use Rattle.checked_paths.specs.Exactness.{AreNewValues, IsContinued, IsUnder, LeadsOn}
use Rattle.checked_paths.specs.Meaning.{StandsForChecked, MayGoOn}
use Rattle.checked_paths.specs.Pure.{PureEntry, PureChecking}
use Rattle.checked_paths.proofs.Above.{stands_above}
use Rattle.checked_paths.specs.Trails.{IsTrail, IsTrailStep}
use Rattle.checked_paths.proofs.TrailSteps.{Parts, parts_of, meets_before, trail_vars}
use Rattle.checked_rows.specs.Asking.{MayAsk, MayAskAt}
use Rattle.checked_rows.proofs.EndLaws.{entry_stands, entry_names_over}
use Rattle.checked_rows.proofs.NameLaws.{names_stand, names_each}
use Rattle.spec_causes.specs.Asking.{AsksThere, RunsAsking}
use Rattle.spec_causes.specs.Reaching.{AddsAsked, IsAskingTrail}

module _ {S : Type 0} (memory : MemoryName) (m : Actions) (stands : S → List PureValue → Heap → Type 0) (terms : S → StateTerms) (meaning : IsMeaning memory stands terms) (p : PureParts) (e : PureEntry) where
  abbrev AskingTrail : PureChecking S → ℕ → PureChecking S → Type 0
  AskingTrail = IsAskingTrail p memory m stands terms e

  pub plain_trail : (start : PureChecking S) (n : ℕ) (x : PureChecking S) → AskingTrail start n x → IsTrail p memory m stands terms e start n x
  plain_trail start zero x trail = trail
  plain_trail start (suc n) x (before, (trail, step, asks)) = (before, (plain_trail start n before trail, step))

  -- the command at which a state stands may ask what that of its path may, under longer valuations too
  pub asks_there : (x : PureChecking S) → MayGoOn p terms e x → (v more : List PureValue) (entry : Entry) (c : Checked) → StandsForChecked stands e x v entry c → (a : PureAtom) → MayAskAt p e x a → AsksThere p entry (v ++ more) c a
  asks_there x may v more entry c standing a (n, (at, (names, (are, may_ask)))) =
      let over : IsStoreOver x.path.vars (running_store x.path.stack) = running_each (IsOver x.path.vars) x.path.stack may.over.path.stores in
      record {
        command = n;
        there = sym (stands_at p v x.path.stack c.machine standing.path.frames) ∙ at;
        names = names;
        running = subst (λ bs. StandsFor (v ++ more) bs c.machine.current.store) (sym are.running)
            (store_longer x.path.vars v more standing.path.proper.one_each (running_store x.path.stack) c.machine.current.store over
            (running_stands v x.path.stack c.machine.current c.machine.callers standing.path.frames));
        logic = store_longer x.path.vars v more standing.path.proper.one_each names.logic (names_at entry c)
            (names_each (IsOver x.path.vars) x.path.stack e.variables names.logic over may.over.entry.variables are.logic)
            (names_stand v x.path.stack c.machine.current c.machine.callers e.variables names.logic entry standing.path.frames standing.entered.variables are.logic);
        at_entry = store_longer x.path.vars v more standing.path.proper.one_each names.entry (entry_store entry.spec entry.args entry.variables)
            (entry_names_over (IsOver x.path.vars) (param_names e.spec.params) e.args e.variables names.entry may.over.entry.args may.over.entry.variables are.entry)
            (entry_stands v e entry names.entry standing.entered are.entry);
        may_ask = subst (λ spec. MayAsk p spec names n.command a) (sym standing.entered.spec) may_ask;
      }

  pub each_asks : (x : PureChecking S) → MayGoOn p terms e x → (v values w : List PureValue) → w ≡ v ++ values → (entry : Entry) (c : Checked) → StandsForChecked stands e x v entry c → (atoms : List PureAtom) → Each (MayAskAt p e x) atoms
      → Each (AsksThere p entry w c) atoms
  each_asks x may v values w is entry c standing atoms all =
      subst (λ u. Each (AsksThere p entry u c) atoms) (sym is) (each_to (MayAskAt p e x) (AsksThere p entry (v ++ values) c) atoms (asks_there x may v values entry c standing) all)

  module _ (entry : Entry) (start : PureChecking S) (v0 : List PureValue) (c0 : Checked) (standing : StandsForChecked stands e start v0 entry c0) where
    -- A run makes the steps and the choices of the path, and its commands may ask the conditions that the path has more than its start. Its
    -- counter counts the new fresh variables.
    pub record IsFollowedAsking (n : ℕ) (x : PureChecking S) (w : List PureValue) (new_vars : List Sort) : Type 0 where
      pub state : Checked
      pub choices : List ℕ
      pub asked : List PureAtom
      pub runs : (more : List PureValue) → RunsAsking p memory m entry (w ++ more) c0 n choices asked state
      pub choices_are : x.path.choices ≡ start.path.choices ++ choices
      pub conds_are : x.path.conds ≡ start.path.conds ++ asked
      pub stands_for : StandsForChecked stands e x w entry state
      pub counted : state.machine.counter ≡ counter_past new_vars c0.machine.counter

    nothing_new : (xs : List Sort) (ws : List PureValue) → AreNewValues c0.machine.counter xs ws → xs ≡ [] → (v0 ++ ws ≡ v0) × (counter_past xs c0.machine.counter ≡ c0.machine.counter)
    nothing_new xs ws are none =
        let no_values : ws ≡ [] = empty ws (subst (λ us. AreNewValues c0.machine.counter us ws) none are) in
        (ap (λ us. v0 ++ us) no_values ∙ append-nil v0, ap (λ us. counter_past us c0.machine.counter) none)
      where
        empty : (us : List PureValue) → AreNewValues c0.machine.counter [] us → us ≡ []
        empty [] new = refl
        empty (u ∷ us) new = absurd new

    reached_start : (x : PureChecking S) (w : List PureValue) → x ≡ start → (continued : IsContinued c0.machine.counter start.path.vars x.path.vars v0 w) → IsFollowedAsking zero x w continued.new_vars
    reached_start x w is continued =
        let none : continued.new_vars ≡ [] = append_cancel_left start.path.vars continued.new_vars [] (sym continued.table ∙ ap (λ (y : PureChecking S). y.path.vars) is ∙ sym (append-nil start.path.vars)) in
        let (same, counter) = nothing_new continued.new_vars continued.new_values continued.in_turn none in
        record {
          state = c0;
          choices = [];
          asked = [];
          runs = λ more. (refl, refl, refl);
          choices_are = ap (λ (y : PureChecking S). y.path.choices) is ∙ sym (append-nil start.path.choices);
          conds_are = ap (λ (y : PureChecking S). y.path.conds) is ∙ sym (append-nil start.path.conds);
          stands_for = subst (λ y. StandsForChecked stands e y w entry c0) (sym is) (subst (λ u. StandsForChecked stands e start u entry c0) (sym (continued.values ∙ same)) standing);
          counted = sym counter;
        }

    -- one step more
    reached_next : (n : ℕ) (before x : PureChecking S) (w : List PureValue) (step : IsTrailStep p memory m stands terms e before x) → AddsAsked p e before x.path.conds
        → (continued : IsContinued c0.machine.counter start.path.vars x.path.vars v0 w) (parts : Parts c0.machine.counter start.path.vars before.path.vars x.path.vars v0 w)
        → Satisfies x.path.vars w x.path.conds → IsFollowedAsking n before parts.part parts.first.new_vars → IsFollowedAsking (suc n) x w continued.new_vars
    reached_next n before x w step (more, (conds, asks)) continued parts meets reached =
        let c : Checked = reached.state in
        let under : IsUnder stands e before x.path.vars x.path.conds parts.part w entry c = record {
          standing = reached.stands_for;
          above = stands_above memory stands terms meaning e before parts.part entry c reached.stands_for;
          continued = parts.second c.machine.counter reached.counted;
          meets = meets;
        } in
        let on : LeadsOn p memory m stands e before x w entry c under.continued.new_vars = step.followed.exact parts.part w entry c under in
        let sorts : continued.new_vars ≡ parts.first.new_vars ++ under.continued.new_vars =
        append_cancel_left start.path.vars continued.new_vars (parts.first.new_vars ++ under.continued.new_vars)
        (sym continued.table ∙ under.continued.table ∙ ap (λ us. us ++ under.continued.new_vars) parts.first.table ∙ append_assoc start.path.vars parts.first.new_vars under.continued.new_vars) in
        let all : counter_past continued.new_vars c0.machine.counter ≡ c0.machine.counter + fresh_count continued.new_vars = past_is continued.new_vars c0.machine.counter in
        let earlier : counter_past parts.first.new_vars c0.machine.counter ≡ c0.machine.counter + fresh_count parts.first.new_vars = past_is parts.first.new_vars c0.machine.counter in
        let later : counter_past under.continued.new_vars c.machine.counter ≡ c.machine.counter + fresh_count under.continued.new_vars = past_is under.continued.new_vars c.machine.counter in
        let sum : fresh_count continued.new_vars ≡ fresh_count parts.first.new_vars + fresh_count under.continued.new_vars = ap fresh_count sorts ∙ fresh_append parts.first.new_vars under.continued.new_vars in
        record {
          state = on.state;
          choices = reached.choices ++ with_choice on.chosen [];
          asked = reached.asked ++ more;
          runs = λ others.
              let longer : w ++ others ≡ parts.part ++ (parts.values ++ others) = ap (λ u. u ++ others) parts.both ∙ append_assoc parts.part parts.values others in
              record {
                before = c;
                earlier = reached.choices;
                asked_before = reached.asked;
                runs = subst (λ u. RunsAsking p memory m entry u c0 n reached.choices reached.asked c) (sym longer) (reached.runs (parts.values ++ others));
                chosen = on.chosen;
                leads = on.leads;
                choices_are = refl;
                more = more;
                asks = each_asks before step.may parts.part (parts.values ++ others) (w ++ others) longer entry c reached.stands_for more asks;
                asked_are = refl;
              };
          choices_are = on.choices ∙ ap (λ k. k ++ with_choice on.chosen []) reached.choices_are ∙ append_assoc start.path.choices reached.choices (with_choice on.chosen []);
          conds_are = conds ∙ ap (λ k. k ++ more) reached.conds_are ∙ append_assoc start.path.conds reached.asked more;
          stands_for = on.stands_for;
          counted = omega (arith, on.counted, all, earlier, later, sum, reached.counted);
        }

    pub follows_asking : (n : ℕ) (x : PureChecking S) (w : List PureValue) → AskingTrail start n x → (continued : IsContinued c0.machine.counter start.path.vars x.path.vars v0 w) → Satisfies x.path.vars w x.path.conds
        → IsFollowedAsking n x w continued.new_vars
    follows_asking zero x w trail continued meets = reached_start x w trail continued
    follows_asking (suc n) x w (before, (trail, step, asks)) continued meets =
        let parts : Parts c0.machine.counter start.path.vars before.path.vars x.path.vars v0 w =
        parts_of c0.machine.counter start.path.vars before.path.vars x.path.vars v0 w standing.path.proper.one_each
        (trail_vars memory m stands terms meaning p e start n before (plain_trail start n before trail)) step.followed.table continued in
        reached_next n before x w step asks continued parts meets
        (follows_asking n before parts.part trail parts.first
        (meets_before before.path.vars x.path.vars parts.part w parts.more parts.values before.path.conds x.path.conds parts.table parts.both parts.one_each step.followed.longer step.may.over.path.conds meets))
