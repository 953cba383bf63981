-- Where a valuation serves, the concrete action may be asked.
use Rattle.std.proofs.Common.{◌≡◌, ⊎_elim, inl, inr, ℕ, zero, suc, ◌<◌, List, [], ◌∷◌, true, Option, Some, None, IsTrue, is_some, slice_get, ltb, refl, sym, ap, subst, ◌∙◌, arith}
use Rattle.std.specs.List.{Contains, list_all}
use Rattle.std.proofs.lemmas.Bool.{and_parts, ltb-true}
use Rattle.std.proofs.lemmas.List.Elements.{Contains-append_cases}
use Rattle.gil_values.specs.declared.kinds.Kind.{Kind}
use Rattle.gil_values.specs.Pure.{PureValue, symbol, kind_of}
use Rattle.gil_values.specs.Symbols.{OccursAmong, symbols, symbols_of_all}
use Rattle.gil_values.proofs.OperatorSymbols.{none_contained}
use Rattle.mem_model.specs.declared.keys.MemoryName.{MemoryName}
use Rattle.mem_model.specs.Actions.{Actions, MayAct}
use Rattle.mem_model.specs.Heaps.{Heap}
use Rattle.pure_terms.specs.declared.variables.Sort.{Sort}
use Rattle.pure_terms.specs.declared.variables.Var.{Var}
use Rattle.pure_terms.specs.Kinds.{kind_of_sort}
use Rattle.pure_terms.specs.Meaning.{both, value, values, IsProper, IsOver}
use Rattle.pure_terms.specs.Naming.{names_only_below}
use Rattle.pure_terms.specs.Pure.{PureTerm, variable, from_list, variables}
use Rattle.pure_terms.proofs.KindLaws.{known_kinds_are_right, over_variable}
use Rattle.pure_terms.proofs.SimpleLaws.{variable-has_value}
use Rattle.pure_terms.proofs.SymbolLaws.{invents_no_symbol}
use Rattle.sym_model.specs.ChunkLaws.{ServingMayAct}
use Rattle.sym_model.specs.Laws.{IsMeaning, MayBeAsked, Serves, ComesFrom}
use Rattle.sym_model.specs.Lists.{Each, OneOf}
use Rattle.sym_model.specs.Meaning.{location_of, fresh_symbol}
use Rattle.sym_model.specs.Terms.{StateTerms, all_of}
use Rattle.sym_model.proofs.ListLaws.{same_some, not_none, each_left, each_right, one_with}

-- a variable of a term that names lower ones alone
pub below_all : (n : ℕ) (xs : List Var) (x : Var) → list_all (λ y. ltb y.number n) xs ≡ true → Contains xs x → x.number < n
below_all n [] x all has = absurd (none_contained x has)
below_all n (y ∷ xs) x all (zero, below, is) =
    ltb-true x.number n (ap (λ (z : Var). ltb z.number n) (sym is) ∙ (and_parts (ltb y.number n) (list_all (λ z. ltb z.number n) xs) all).0)
below_all n (y ∷ xs) x all (suc k, below, is) =
    below_all n xs x (and_parts (ltb y.number n) (list_all (λ z. ltb z.number n) xs) all).1 (k, omega (arith, below), is)

pub both_parts : (a : Option PureValue) (b : Option (List PureValue)) (us : List PureValue) → both a b ≡ Some us → (w : PureValue) × ((ws : List PureValue) × ((a ≡ Some w) × (b ≡ Some ws) × (us ≡ w ∷ ws)))
both_parts (Some w) (Some ws) us is = (w, (ws, (refl, refl, sym (same_some is))))
both_parts (Some w) None us is = not_none is
both_parts None b us is = not_none is

-- each symbol in the values of arguments occurs in the value of a variable of one of them
pub symbols_in_arguments : (v : List PureValue) (n : ℕ) (args : List PureTerm) (us : List PureValue) → values v (from_list args) ≡ Some us → OccursAmong n us → OneOf (ComesFrom v n) args
symbols_in_arguments v n [] us is occurs = absurd (none_contained n (subst (OccursAmong n) (sym (same_some is)) occurs))
symbols_in_arguments v n (t ∷ args) us is occurs =
    let (w, (ws, (first, rest, whole))) = both_parts (value v t) (values v (from_list args)) us is in
    ⊎_elim
    (λ here. inl (invents_no_symbol t v w n first here))
    (λ later. inr (symbols_in_arguments v n args ws rest later))
    (Contains-append_cases (symbols w) (symbols_of_all ws) n (subst (OccursAmong n) whole occurs))

pub symbol_of_kind : (w : PureValue) → kind_of w ≡ Kind.Sym → (n : ℕ) × (w ≡ symbol n)
symbol_of_kind (symbol n) is = (n, refl)
symbol_of_kind w is = cc

module _ (vars : List Sort) (v : List PureValue) (proper : IsProper vars v) where
  -- the value of a variable of sort Fresh
  pub fresh_value : (x : Var) → x.sort ≡ Sort.Fresh → IsOver vars (variable x) → (n : ℕ) × (slice_get v x.number ≡ Some (symbol n))
  fresh_value x sort over =
      let (w, has) = variable-has_value vars v x proper over in
      let (n, is) = symbol_of_kind w (known_kinds_are_right vars v (variable x) w Kind.Sym proper over has (ap kind_of_sort sort)) in
      (n, has ∙ ap Some is)

  -- the symbol of a fresh variable occurs in no value of a variable with a lower number
  never_lower : (x : Var) (n : ℕ) → x.sort ≡ Sort.Fresh → IsOver vars (variable x) → slice_get v x.number ≡ Some (symbol n) → (ts : List PureTerm) → Each (λ t. IsTrue (names_only_below x.number t)) ts → OneOf (ComesFrom v n) ts → ⊥
  never_lower x n sort over is ts below one =
      one_with (λ t. IsTrue (names_only_below x.number t)) (ComesFrom v n) ts below one
      (λ t lower (y, (w, (named, has, occurs))).
      proper.fresh x.number y.number n w (over_variable vars x over ∙ ap Some sort) is (below_all x.number (variables t) y lower named) has occurs)

same_symbol : (o : Option PureValue) (m n : ℕ) → o ≡ Some (symbol m) → location_of o ≡ Some n → o ≡ Some (symbol n)
same_symbol o m n is at = is ∙ ap (λ k. Some (symbol k)) (same_some (sym (ap location_of is) ∙ at))

module _ {S : Type 0} (memory : MemoryName) (stands : S → List PureValue → Heap → Type 0) (terms : S → StateTerms) (m : Actions) (meaning : IsMeaning memory stands terms) where
  may_act : (action : List ℕ) (fresh : Option Var) (args : List PureTerm) (s : S) (vars : List Sort) (v args' : List PureValue) (h : Heap)
      → MayBeAsked m action fresh args (terms s) → Serves stands terms vars v fresh args s args' h → MayAct m action (fresh_symbol v fresh) args' h
  may_act action None args s vars v args' h asked serves = record {
    symbol_where_taken = asked.fresh_where_taken;
    new_in_heap = λ n is. not_none is;
    new_in_arguments = λ n is. not_none is;
  }
  may_act action (Some x) args s vars v args' h asked serves =
      let sort : x.sort ≡ Sort.Fresh = asked.of_sort x refl in
      let (k, has) = fresh_value vars v serves.proper x sort serves.fresh_over in
      let lower = asked.above x refl in
      record {
        symbol_where_taken = (λ some. asked.fresh_where_taken.0 refl, λ taken. ap is_some (ap location_of has));
        new_in_heap = λ n is occurs.
            never_lower vars v serves.proper x n sort serves.fresh_over (same_symbol (slice_get v x.number) k n has is) (all_of (terms s))
            (each_right (λ t. IsTrue (names_only_below x.number t)) args (all_of (terms s)) lower)
            (meaning.symbols s v h n serves.has_heap occurs);
        new_in_arguments = λ n is occurs.
            never_lower vars v serves.proper x n sort serves.fresh_over (same_symbol (slice_get v x.number) k n has is) args
            (each_left (λ t. IsTrue (names_only_below x.number t)) args (all_of (terms s)) lower)
            (symbols_in_arguments v n args args' serves.have_values occurs);
      }

  pub serving_may_act : ServingMayAct stands terms m
  serving_may_act = may_act
