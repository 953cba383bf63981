-- What a step records of its command, and how many symbols it takes.
use Rattle.std.proofs.Common.{◌≡◌, ⊎_elim, inl, inr, ℕ, ◌+◌, List, [], ◌∷◌, ◌++◌, Bool, true, false, if◌then◌else◌, Option, Some, None, is_some, refl, sym, ap, subst, ◌∙◌, arith, true≢false}
use Rattle.gil_values.specs.declared.kinds.Kind.{Kind}
use Rattle.gil_syntax.specs.Pure.{PureParts, PureCommand, assign, call, act, usym, isym, ifgoto, return, fail, throw, vanish, fold_use, unfold_use, assert_that, loop_invariant, PureNumberedCommand}
use Rattle.mem_model.specs.Actions.{Actions}
use Rattle.pure_terms.specs.declared.variables.Sort.{Sort}
use Rattle.sym_model.specs.Meaning.{has_open}
use Rattle.sym_model.proofs.ListLaws.{same_some, not_none}
use Rattle.sym_paths.specs.Frames.{draw_sort, taken, drawn_by}
use Rattle.sym_paths.specs.Meaning.{command_of_path}
use Rattle.sym_paths.specs.Pure.{PureEnd, PurePath}
use Rattle.sym_paths.specs.Steps.{IsChosen, MayChoose, IsRecorded, counter_after, counter_past, fresh_count, new_sorts, makes_choice}
use Rattle.std.proofs.lemmas.List.{append-nil}

past_append : (xs ys : List Sort) (n : ℕ) → counter_past (xs ++ ys) n ≡ counter_past ys (counter_past xs n)
past_append [] ys n = refl
past_append (x ∷ xs) ys n = past_append xs ys (counter_after x n)

after_more : (x : Sort) (n k : ℕ) → counter_after x (n + k) ≡ n + counter_after x k
after_more Sort.Fresh n k = omega arith
after_more x n k = refl

past_more : (xs : List Sort) (n k : ℕ) → counter_past xs (n + k) ≡ n + counter_past xs k
past_more [] n k = refl
past_more (x ∷ xs) n k = ap (counter_past xs) (after_more x n k) ∙ past_more xs n (counter_after x k)

pub past_is : (xs : List Sort) (n : ℕ) → counter_past xs n ≡ n + fresh_count xs
past_is xs n = let same : n ≡ n + 0 = omega arith in ap (counter_past xs) same ∙ past_more xs n 0

pub fresh_append : (xs ys : List Sort) → fresh_count (xs ++ ys) ≡ fresh_count xs + fresh_count ys
fresh_append xs ys = past_append xs ys 0 ∙ past_is ys (fresh_count xs)

-- how many symbols a command takes
abbrev pub symbols_taken : Actions → PureCommand → ℕ
symbols_taken m (usym x) = 1
symbols_taken m (act x a es) = if m.takes_symbol a then 1 else 0
symbols_taken m _ = 0

no_draw_fresh : (k : Kind) → fresh_count (drawn_by (draw_sort k)) ≡ 0
no_draw_fresh Kind.Int = refl
no_draw_fresh Kind.Bool = refl
no_draw_fresh Kind.Str = refl
no_draw_fresh k = refl

as_many_taken : (takes : Bool) → fresh_count (taken takes) ≡ (if takes then 1 else 0)
as_many_taken true = refl
as_many_taken false = refl

-- as many of its new variables are fresh
new_symbols : (m : Actions) (k : PureCommand) → fresh_count (new_sorts m k) ≡ symbols_taken m k
new_symbols m (usym x) = refl
new_symbols m (isym x k) = no_draw_fresh k
new_symbols m (act x a es) = as_many_taken (m.takes_symbol a)
new_symbols m (assign x e) = refl
new_symbols m (call x e es handler) = refl
new_symbols m (ifgoto e i) = refl
new_symbols m (return e) = refl
new_symbols m (fail e) = refl
new_symbols m (throw e) = refl
new_symbols m vanish = refl
new_symbols m (fold_use u) = refl
new_symbols m (unfold_use u) = refl
new_symbols m (assert_that items) = refl
new_symbols m (loop_invariant xs ps items) = refl

module _ {S : Type 0} (p : PureParts) (m : Actions) (path next : PurePath S) where
  -- with these new variables and this choice
  pub records_by : (c : PureNumberedCommand) → command_of_path p path ≡ Some c → (sorts : List Sort) (chosen : Option ℕ) → next.vars ≡ path.vars ++ sorts → sorts ≡ new_sorts m c.command
      → IsChosen path next chosen → MayChoose c.command chosen → is_some chosen ≡ makes_choice c.command → IsRecorded p m path next
  records_by c at sorts chosen vars new choices may made = record {
    variables = λ d there. inl (vars ∙ ap (λ ss. path.vars ++ ss) new ∙ ap (λ (k : PureNumberedCommand). path.vars ++ new_sorts m k.command) (same_some (sym at ∙ there)));
    choice = λ d there. (
      chosen,
      (
        choices,
        subst (λ (k : PureNumberedCommand). MayChoose k.command chosen) (same_some (sym at ∙ there)) may,
        λ going. made ∙ ap (λ (k : PureNumberedCommand). makes_choice k.command) (same_some (sym at ∙ there)),
      ),
    );
  }

  -- with neither
  pub same_records : (c : PureNumberedCommand) → command_of_path p path ≡ Some c → new_sorts m c.command ≡ [] → makes_choice c.command ≡ false → next.vars ≡ path.vars → next.choices ≡ path.choices → IsRecorded p m path next
  same_records c at new made vars choices = records_by c at [] None (vars ∙ sym (append-nil path.vars)) (sym new) (choices ∙ sym (append-nil path.choices)) (λ n none. not_none none) (sym made)

  -- a path that ends, without a variable, a choice or the need of a literal form more
  pub ended_records : next.vars ≡ path.vars → next.choices ≡ path.choices → (has_open path.conds ≡ false → has_open next.conds ≡ false) → (how : PureEnd) → next.ending ≡ Some how → IsRecorded p m path next
  ended_records vars choices closed how is = record {
    variables = λ c at. inr (vars, λ going. not_none (sym going ∙ is));
    choice = λ c at. (None, (choices ∙ sym (append-nil path.choices), (λ n none. not_none none), ⊎_elim (λ going. not_none (sym going ∙ is)) (λ needs. absurd (true≢false (sym needs.1 ∙ closed needs.0)))));
  }

  -- a path that goes on has the symbols that the command takes
  pub symbols_recorded : IsRecorded p m path next → (c : PureNumberedCommand) → command_of_path p path ≡ Some c → next.ending ≡ None → fresh_count next.vars ≡ fresh_count path.vars + symbols_taken m c.command
  symbols_recorded recorded c at going =
      ⊎_elim
      (λ (vars : next.vars ≡ path.vars ++ new_sorts m c.command). ap fresh_count vars ∙ fresh_append path.vars (new_sorts m c.command) ∙ ap (λ n. fresh_count path.vars + n) (new_symbols m c.command))
      (λ (ended : (next.vars ≡ path.vars) × ¬ (next.ending ≡ None)). absurd (ended.1 going))
      (recorded.variables c at)
