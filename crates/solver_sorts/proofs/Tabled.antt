-- Tables that get the sorts that are said, atom by atom.
use Rattle.std.proofs.Common.{◌≡◌, ◌⊎◌, ⊎_elim, inl, inr, ℕ, zero, suc, ◌+◌, ◌<◌, List, [], ◌∷◌, length, take, set, Some, slice_get, refl, sym, ap, ◌∙◌, subst, arith}
use Rattle.std.proofs.lemmas.Bool.{cases_lt}
use Rattle.std.proofs.lemmas.List.{length-set}
use Rattle.std.proofs.lemmas.Option.{same_Some, slice_get_within}
use Rattle.pure_terms.specs.declared.variables.Sort.{Sort}
use Rattle.pure_terms.specs.declared.variables.Var.{Var}
use Rattle.pure_terms.specs.Meaning.{AreOver, IsOver}
use Rattle.pure_terms.specs.Pure.{PureAtom, positive, variable, term_of}
use Rattle.pure_terms.proofs.KindLaws.{over_variable}
use Rattle.gil_values.specs.declared.kinds.Kind.{Kind}
use Rattle.solver_proof.specs.Chains.{kind_is}
use Rattle.solver_sorts.specs.Sorting.{sort_of_kind, SaysSort, IsSaid, IsSortedTable}
use Rattle.solver_sorts.specs.Tables.{IsWithin, IsSet, IsLeft, IsNoted}
use Rattle.solver_sorts.proofs.Over.{over_at}

set_same : {X : Type 0} (xs : List X) (i : ℕ) (x : X) → i < length xs → slice_get (set xs i x) i ≡ Some x
set_same [] i x below = absurd (omega (arith, below))
set_same (y ∷ ys) zero x below = refl
set_same (y ∷ ys) (suc i) x below = set_same ys i x (omega (arith, below))

set_other : {X : Type 0} (xs : List X) (i j : ℕ) (x : X) → (j ≡ i → ⊥) → slice_get (set xs i x) j ≡ slice_get xs j
set_other [] i j x other = refl
set_other (y ∷ ys) zero zero x other = absurd (other refl)
set_other (y ∷ ys) zero (suc j) x other = refl
set_other (y ∷ ys) (suc i) zero x other = refl
set_other (y ∷ ys) (suc i) (suc j) x other = set_other ys i j x (λ e. other (ap suc e))

same_or_not : (i j : ℕ) → (i ≡ j) ⊎ (i ≡ j → ⊥)
same_or_not zero zero = inl refl
same_or_not zero (suc j) = inr (λ e. omega (arith, e))
same_or_not (suc i) zero = inr (λ e. omega (arith, e))
same_or_not (suc i) (suc j) = ⊎_elim (λ e. inl (ap suc e)) (λ n. inr (λ e. n (omega (arith, e)))) (same_or_not i j)

-- one variable is named, and of it one sort is said
says_once : (a : PureAtom) (x y : ℕ) (s t : Sort) → SaysSort a x s → SaysSort a y t → x ≡ y
says_once a x y s t one two =
    let same : positive (kind_is (variable (record { number = x; sort = Sort.Any })) one.kind) ≡ positive (kind_is (variable (record { number = y; sort = Sort.Any })) two.kind) = sym one.is ∙ two.is in
    let subject : record { number = x; sort = Sort.Any } ≡ record { number = y; sort = Sort.Any } = cc in
    ap (λ (z : Var). z.number) subject

not_any : (k : Kind) → sort_of_kind k ≡ Some Sort.Any → ⊥
not_any Kind.Int is = cc
not_any Kind.Bool is = cc
not_any Kind.Str is = cc
not_any Kind.Sym is = cc
not_any Kind.Kind is = cc
not_any Kind.Proc is = cc
not_any Kind.List is = cc
not_any Kind.Undef is = cc
not_any Kind.Null is = cc

-- ---- the variable is one of the table

pub any_there : (vars : List Sort) (list : List PureAtom) (i : ℕ) (a : PureAtom) (x : ℕ) (s : Sort) → AreOver vars list → slice_get list i ≡ Some a → SaysSort a x s → slice_get vars x ≡ Some Sort.Any
any_there vars list i a x s over at says =
    over_variable vars (record { number = x; sort = Sort.Any }) (subst (λ b. IsOver vars (term_of b)) says.is (over_at vars list i a over at))

pub none_said : (vars : List Sort) (list : List PureAtom) → IsSortedTable vars (take 0 list) vars
none_said vars list = record {
  one_each = refl;
  each = λ x s t at now. inl (same_Some t s (sym now ∙ at));
  all = λ x s said any. nowhere said.place said.atom (subst (λ xs. slice_get xs said.place ≡ Some said.atom) (take-none list) said.at);
} where
  take-none : (xs : List PureAtom) → take 0 xs ≡ []
  take-none [] = refl
  take-none (x ∷ xs) = refl

  nowhere : (i : ℕ) (a : PureAtom) → slice_get [] i ≡ Some a → ⊥
  nowhere i a at = cc

-- ---- one more atom

take_get : {X : Type 0} (xs : List X) (n p : ℕ) → p < n → slice_get (take n xs) p ≡ slice_get xs p
take_get [] zero p below = refl
take_get [] (suc n) p below = refl
take_get (x ∷ xs) zero p below = absurd (omega (arith, below))
take_get (x ∷ xs) (suc n) zero below = refl
take_get (x ∷ xs) (suc n) (suc p) below = take_get xs n p (omega (arith, below))

take_below : {X : Type 0} (xs : List X) (n p : ℕ) (x : X) → slice_get (take n xs) p ≡ Some x → p < n
take_below [] zero p x at = cc
take_below [] (suc n) p x at = cc
take_below (y ∷ ys) zero p x at = cc
take_below (y ∷ ys) (suc n) zero x at = omega arith
take_below (y ∷ ys) (suc n) (suc p) x at = let rest : p < n = take_below ys n p x at in omega (arith, rest)

module _ (list : List PureAtom) (i : ℕ) (a : PureAtom) (here : slice_get list i ≡ Some a) where
  said_more : (x : ℕ) (s : Sort) → IsSaid (take i list) x s → IsSaid (take (i + 1) list) x s
  said_more x s said =
      let below : said.place < i = take_below list i said.place said.atom said.at in
      record {
        place = said.place;
        atom = said.atom;
        at = take_get list (i + 1) said.place (omega (arith, below)) ∙ sym (take_get list i said.place below) ∙ said.at;
        says = said.says;
      }

  said_last : (x : ℕ) (s : Sort) → SaysSort a x s → IsSaid (take (i + 1) list) x s
  said_last x s says = record { place = i; atom = a; at = take_get list (i + 1) i (omega arith) ∙ here; says = says }

  said_cases : (x : ℕ) (s : Sort) → IsSaid (take (i + 1) list) x s → IsSaid (take i list) x s ⊎ SaysSort a x s
  said_cases x s said = ⊎_elim (λ last. inr (now last)) (λ other. inl (before other)) (same_or_not said.place i) where
    smaller : (p : ℕ) → p < i + 1 → (p ≡ i → ⊥) → p < i
    smaller p b o = ⊎_elim (λ h. h) (λ h. absurd (o (omega (arith, h, b)))) (cases_lt p i)

    below : said.place < i + 1
    below = take_below list (i + 1) said.place said.atom said.at

    there : slice_get list said.place ≡ Some said.atom
    there = sym (take_get list (i + 1) said.place below) ∙ said.at

    now : said.place ≡ i → SaysSort a x s
    now last = subst (λ b. SaysSort b x s) (same_Some said.atom a (sym there ∙ ap (slice_get list) last ∙ here)) said.says

    before : (said.place ≡ i → ⊥) → IsSaid (take i list) x s
    before other =
        let less : said.place < i = smaller said.place below other in
        record { place = said.place; atom = said.atom; at = take_get list i said.place less ∙ there; says = said.says }

  module _ (vars sorts new : List Sort) (over : AreOver vars list) (before : IsSortedTable vars (take i list) sorts) where
    old_each : (x : ℕ) (s t : Sort) → slice_get vars x ≡ Some s → slice_get sorts x ≡ Some t → (t ≡ s) ⊎ ((s ≡ Sort.Any) × IsSaid (take (i + 1) list) x t)
    old_each x s t at now = ⊎_elim (λ same. inl same) (λ any. inr (any.0, said_more x t any.1)) (before.each x s t at now)

    noted_set : IsSet a sorts new → IsSortedTable vars (take (i + 1) list) new
    noted_set noted = record {
      one_each = ap length noted.is ∙ length-set sorts noted.number noted.sort ∙ before.one_each;
      each = each;
      all = all;
    } where
      any : slice_get vars noted.number ≡ Some Sort.Any
      any = any_there vars list i a noted.number noted.sort over here noted.says

      within : noted.number < length sorts
      within =
          let there : noted.number < length vars = slice_get_within vars noted.number Sort.Any any in
          let long = before.one_each in
          omega (arith, there, long)

      there : (x : ℕ) (t : Sort) → x ≡ noted.number → slice_get new x ≡ Some t → t ≡ noted.sort
      there x t same now = sym (same_Some noted.sort t (sym (set_same sorts noted.number noted.sort within) ∙ ap (λ xs. slice_get xs noted.number) (sym noted.is) ∙ ap (slice_get new) (sym same) ∙ now))

      elsewhere : (x : ℕ) (t : Sort) → (x ≡ noted.number → ⊥) → slice_get new x ≡ Some t → slice_get sorts x ≡ Some t
      elsewhere x t other now = sym (set_other sorts noted.number x noted.sort other) ∙ ap (λ xs. slice_get xs x) (sym noted.is) ∙ now

      each_at : (x : ℕ) (s t : Sort) → x ≡ noted.number → slice_get vars x ≡ Some s → slice_get new x ≡ Some t → (t ≡ s) ⊎ ((s ≡ Sort.Any) × IsSaid (take (i + 1) list) x t)
      each_at x s t same at now =
          let says : SaysSort a x t = subst (λ u. SaysSort a x u) (sym (there x t same now)) (subst (λ y. SaysSort a y noted.sort) (sym same) noted.says) in
          inr (same_Some s Sort.Any (sym at ∙ ap (slice_get vars) same ∙ any), said_last x t says)

      each : (x : ℕ) (s t : Sort) → slice_get vars x ≡ Some s → slice_get new x ≡ Some t → (t ≡ s) ⊎ ((s ≡ Sort.Any) × IsSaid (take (i + 1) list) x t)
      each x s t at now = ⊎_elim (λ same. each_at x s t same at now) (λ other. old_each x s t at (elsewhere x t other now)) (same_or_not x noted.number)

      all : (x : ℕ) (s : Sort) → IsSaid (take (i + 1) list) x s → slice_get new x ≡ Some Sort.Any → ⊥
      all x s said now =
          ⊎_elim (λ same. not_any noted.says.kind (noted.says.sort ∙ ap Some (sym (there x Sort.Any same now))))
          (λ other. ⊎_elim (λ was. before.all x s was (elsewhere x Sort.Any other now)) (λ says. other (says_once a x noted.number s noted.sort says noted.says)) (said_cases x s said))
          (same_or_not x noted.number)

    noted_left : IsLeft a sorts new → IsSortedTable vars (take (i + 1) list) new
    noted_left left = record {
      one_each = ap length left.1 ∙ before.one_each;
      each = λ x s t at now. old_each x s t at (sym (ap (λ xs. slice_get xs x) left.1) ∙ now);
      all = λ x s said now. ⊎_elim (λ was. before.all x s was (sym (ap (λ xs. slice_get xs x) left.1) ∙ now)) (λ says. left.0 x s says) (said_cases x s said);
    }

    pub noted_next : IsNoted a sorts new → IsSortedTable vars (take (i + 1) list) new
    noted_next noted = ⊎_elim noted_set noted_left noted

-- ---- as the code goes over the list

pub within_table : (vars sorts : List Sort) (list done : List PureAtom) (i : ℕ) (a : PureAtom) → AreOver vars list → slice_get list i ≡ Some a → IsSortedTable vars done sorts → IsWithin a (length sorts)
within_table vars sorts list done i a over at table x s says =
    let there : x < length vars = slice_get_within vars x Sort.Any (any_there vars list i a x s over at says) in
    let long = table.one_each in
    omega (arith, there, long)
