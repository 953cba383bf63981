-- Starts of a specification are real.
use Rattle.std.proofs.Common.{◌≡◌, ◌⊎◌, ⊎_elim, inl, inr, ℕ, zero, suc, ◌+◌, ◌<◌, List, [], ◌∷◌, IsTrue, false, Some, refl, sym, ap, subst, arith}
use Rattle.std.specs.List.{Contains}
use Rattle.std.proofs.lemmas.List.Elements.{Contains-append_left, Contains-append_cases}
use Rattle.gil_values.specs.Pure.{PureValue}
use Rattle.gil_values.specs.Symbols.{symbols, symbols_of_all, OccursIn, OccursAmong, AreBelow}
use Rattle.gil_values.proofs.OperatorSymbols.{none_contained}
use Rattle.gil_syntax.specs.Programs.{find_proc}
use Rattle.gil_syntax.specs.Pure.{PureProc, PureSpec, PureParts}
use Rattle.gil_machine.specs.Run.{start}
use Rattle.gil_machine.proofs.Placed.{found_name}
use Rattle.mem_model.specs.declared.keys.MemoryName.{MemoryName}
use Rattle.mem_model.specs.Actions.{Actions}
use Rattle.mem_model.specs.Heaps.{Heap}
use Rattle.checked_runs.specs.Checked.{Checked, Entry}
use Rattle.pure_terms.specs.declared.variables.Sort.{Sort}
use Rattle.pure_terms.specs.Meaning.{all_true, IsProper}
use Rattle.sym_model.specs.Laws.{IsMeaning}
use Rattle.sym_model.specs.Meaning.{has_open}
use Rattle.sym_model.specs.Terms.{StateTerms}
use Rattle.sym_paths.specs.Beginning.{BeginningsStand}
use Rattle.sym_paths.specs.Meaning.{Stands}
use Rattle.sym_paths.specs.Steps.{counter_after, counter_past, fresh_count}
use Rattle.sym_paths.proofs.Recording.{past_is}
use Rattle.sym_beginning.specs.Beginning.{PureStart, PureBeginnings, IsBeginning}
use Rattle.sym_beginning.specs.Beginning as beginning
use Rattle.checked_paths.specs.Exactness.{IsNewValue, AreNewValues}
use Rattle.checked_paths.specs.Meaning.{StandsForChecked, MayGoOn}
use Rattle.checked_paths.proofs.Above.{stands_above, store_below}
use Rattle.spec_causes.specs.Causes.{MeetsAbove}
use Rattle.spec_causes.specs.Reaching.{IsStartUnder, IsRealStart, entry_at, checked_start}

-- ---- symbols of new values

cons_cases : (y : ℕ) (ys : List ℕ) (n : ℕ) → Contains (y ∷ ys) n → (y ≡ n) ⊎ Contains ys n
cons_cases y ys n (zero, within, is) = inl is
cons_cases y ys n (suc k, within, is) = inr (k, omega (arith, within), is)

only : (w : PureValue) (n : ℕ) → OccursIn n w → OccursAmong n (w ∷ [])
only w n occurs = Contains-append_left (symbols w) [] n occurs

first_below : (n : ℕ) (sort : Sort) (w : PureValue) → IsNewValue n sort w → (k : ℕ) → OccursIn k w → k < counter_after sort n
first_below n Sort.Fresh w is k occurs = ⊎_elim (λ (same : n ≡ k). omega (arith, same)) (λ none. absurd (none_contained k none)) (cons_cases n [] k (subst (OccursIn k) is occurs))
first_below n Sort.Int w is k occurs = is k (only w k occurs)
first_below n Sort.Bool w is k occurs = is k (only w k occurs)
first_below n Sort.Str w is k occurs = is k (only w k occurs)
first_below n Sort.Sym w is k occurs = is k (only w k occurs)
first_below n Sort.List w is k occurs = is k (only w k occurs)
first_below n Sort.Any w is k occurs = is k (only w k occurs)

pub new_below : (n : ℕ) (sorts : List Sort) (ws : List PureValue) → AreNewValues n sorts ws → AreBelow (counter_past sorts n) ws
new_below n [] [] are k occurs = absurd (none_contained k occurs)
new_below n [] (w ∷ ws) are k occurs = absurd are
new_below n (sort ∷ sorts) [] are k occurs = absurd are
new_below n (sort ∷ sorts) (w ∷ ws) are k occurs =
    let past : counter_past sorts (counter_after sort n) ≡ counter_after sort n + fresh_count sorts = past_is sorts (counter_after sort n) in
    ⊎_elim
    (λ here. let less : k < counter_after sort n = first_below n sort w are.0 k here in omega (arith, less, past))
    (λ there. new_below (counter_after sort n) sorts ws are.1 k there)
    (Contains-append_cases (symbols w) (symbols_of_all ws) k occurs)

-- ---- starts

module _ {S : Type 0} (memory : MemoryName) (m : Actions) (stands : S → List PureValue → Heap → Type 0) (terms : S → StateTerms) (kept : S → Type 0) (plain : _) (meaning : IsMeaning memory stands terms)
    (paths : BeginningsStand stands terms plain) (p : PureParts) (spec : PureSpec) (b : PureBeginnings S) (q : PureProc) (found : find_proc p.procs spec.name ≡ Some q) where
  named : q.name ≡ spec.name
  named = found_name p.procs spec.name q found

  module _ (s : PureStart S) (is : IsBeginning b q terms kept s) (may : MayGoOn p terms (entry_at spec b) (checked_start s)) (counter : ℕ) (v : List PureValue) (above : MeetsAbove counter s.path.vars s.path.conds v)
      (real : beginning.IsRealStart b memory stands spec v s) where
    abbrev after : ℕ
    after = counter_past s.path.vars counter

    below : AreBelow after v
    below = new_below counter s.path.vars v above.in_turn

    stood : Stands stands s.path v (start p spec.name real.args real.state.heap after)
    stood = subst (λ f. Stands stands s.path v (start p f real.args real.state.heap after)) named
        (paths.starts p q b.args b.vars s.path.conds s.path.memory s.path is.begins (subst (λ f. find_proc p.procs f ≡ Some q) (sym named) found) v real.args real.state.heap after real.under.args_are real.under.proper above.meets.true_there
        real.memory_is below)

    abbrev first : Checked
    first = record { machine = start p spec.name real.args real.state.heap after; facts = real.state.facts; passed = [] ∷ [] }

    abbrev entry : Entry
    entry = record { spec = spec; args = real.args; variables = real.variables }

    standing : StandsForChecked stands (entry_at spec b) (checked_start s) v entry first
    standing = record {
      entered = record { spec = refl; args = real.under.args_are; variables = real.under.variables_are };
      path = stood;
      facts = real.facts_are;
      passed = (tt, tt);
    }

    there : IsStartUnder p memory m stands terms (entry_at spec b) (checked_start s) counter v entry first
    there = record {
      is_start = record {
        entered = real.entered;
        state = real.state;
        adding = real.adding;
        counter = after;
        is_start = refl;
        above = stands_above memory stands terms meaning (entry_at spec b) (checked_start s) v entry first standing;
        variables_below = store_below after v below b.variables real.variables real.under.variables_are;
      };
      counted = refl;
      standing = standing;
    }

  pub start_real : (s : PureStart S) → IsBeginning b q terms kept s → MayGoOn p terms (entry_at spec b) (checked_start s)
      → ((v : List PureValue) → IsProper b.vars v → IsTrue (all_true v s.path.conds) → has_open s.path.conds ≡ false → beginning.IsRealStart b memory stands spec v s) → has_open s.path.conds ≡ false
      → IsRealStart p memory m stands terms (entry_at spec b) (checked_start s)
  start_real s is may exact no_form = record {
    conds_over = may.over.path.conds;
    entry_over = may.over.entry;
    no_choices = ap (λ r. r.choices) is.begins.is;
    no_steps = ap (λ r. r.steps) is.begins.is;
    stands_there = λ counter v above.
        let real : beginning.IsRealStart b memory stands spec v s = exact v (subst (λ vars. IsProper vars v) (ap (λ r. r.vars) is.begins.is) above.meets.proper) above.meets.true_there no_form in
        (entry s is may counter v above real, (first s is may counter v above real, there s is may counter v above real));
  }
