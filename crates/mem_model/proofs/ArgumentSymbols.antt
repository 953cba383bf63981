-- The symbols of what is read of arguments are symbols of the arguments.
use Rattle.std.proofs.Common.{◌≡◌, ℕ, List, [], ◌∷◌, Result, Ok, Err, ⊎_elim, refl, sym, ap, subst, ◌∙◌}
use Rattle.std.proofs.lemmas.List.Elements.{Contains-append_left, Contains-append_right, Contains-push, Contains-push_cases}
use Rattle.std.proofs.Math.Nat.{not-suc-le-zero}
use Rattle.gil_values.specs.Pure.{PureValue, text, symbol}
use Rattle.gil_values.specs.Symbols.{symbols, symbols_of_all, OccursIn, OccursAmong}
use Rattle.mem_model.specs.declared.failures.Failure.{Failure}
use Rattle.mem_model.specs.Arguments.{and_then, one_of, two_of, three_of, symbol_of, text_of, location_in, property_in, property_and_value_in}

pub then_ok : {X Y : Type 0} (r : Result X Failure) (f : X → Result Y Failure) (y : Y) → and_then r f ≡ Ok y → (x : X) × (r ≡ Ok x) × (f x ≡ Ok y)
then_ok (Ok x) f y is = (x, refl, is)
then_ok (Err e) f y is = absurd (cc)

pub same_ok : {X : Type 0} (x y : X) → ◌≡◌ {A = Result X Failure} (Ok x) (Ok y) → x ≡ y
same_ok x y is = cc

-- ---- single values

pub symbol_itself : (l : ℕ) → OccursIn l (symbol l)
symbol_itself l = Contains-push [] l

pub symbol_alone : (l n : ℕ) → OccursIn n (symbol l) → l ≡ n
symbol_alone l n occurs =
    ⊎_elim (λ none. absurd (not-suc-le-zero none.1)) (λ same. same) (Contains-push_cases [] l n occurs)

pub symbol_is : (v : PureValue) (l : ℕ) → symbol_of v ≡ Ok l → v ≡ symbol l
symbol_is (symbol m) l is = ap symbol (same_ok m l is)
symbol_is v l is = absurd (cc)

pub text_is : (v : PureValue) (p : List ℕ) → text_of v ≡ Ok p → v ≡ text p
text_is (text q) p is = ap text (same_ok q p is)
text_is v p is = absurd (cc)

symbol_in : (v : PureValue) (l : ℕ) → symbol_of v ≡ Ok l → OccursIn l v
symbol_in v l is = subst (OccursIn l) (sym (symbol_is v l is)) (symbol_itself l)

-- ---- lists of arguments

first_of_all : (a : PureValue) (vs : List PureValue) (n : ℕ) → OccursIn n a → OccursAmong n (a ∷ vs)
first_of_all a vs n occurs = Contains-append_left (symbols a) (symbols_of_all vs) n occurs

later_of_all : (a : PureValue) (vs : List PureValue) (n : ℕ) → OccursAmong n vs → OccursAmong n (a ∷ vs)
later_of_all a vs n occurs = Contains-append_right (symbols a) (symbols_of_all vs) n occurs

pub one_is : (args : List PureValue) (a : PureValue) → one_of args ≡ Ok a → args ≡ a ∷ []
one_is (b ∷ []) a is = ap (λ v. v ∷ []) (same_ok b a is)
one_is args a is = absurd (cc)

pub two_are : (args : List PureValue) (a b : PureValue) → two_of args ≡ Ok (a, b) → args ≡ a ∷ b ∷ []
two_are (c ∷ d ∷ []) a b is = ap (λ (r : PureValue × PureValue). r.0 ∷ r.1 ∷ []) (same_ok (c, d) (a, b) is)
two_are args a b is = absurd (cc)

pub three_are : (args : List PureValue) (a b c : PureValue) → three_of args ≡ Ok (a, b, c) → args ≡ a ∷ b ∷ c ∷ []
three_are (d ∷ e ∷ f ∷ []) a b c is = ap (λ (r : PureValue × PureValue × PureValue). r.0 ∷ r.1 ∷ r.2 ∷ []) (same_ok (d, e, f) (a, b, c) is)
three_are args a b c is = absurd (cc)

module _ (args : List PureValue) where
  pub one_symbols : (a : PureValue) → one_of args ≡ Ok a → (n : ℕ) → OccursIn n a → OccursAmong n args
  one_symbols a is n occurs = subst (OccursAmong n) (sym (one_is args a is)) (first_of_all a [] n occurs)

  pub first_symbols : (a b : PureValue) → two_of args ≡ Ok (a, b) → (n : ℕ) → OccursIn n a → OccursAmong n args
  first_symbols a b is n occurs = subst (OccursAmong n) (sym (two_are args a b is)) (first_of_all a (b ∷ []) n occurs)

  pub second_symbols : (a b : PureValue) → two_of args ≡ Ok (a, b) → (n : ℕ) → OccursIn n b → OccursAmong n args
  second_symbols a b is n occurs = subst (OccursAmong n) (sym (two_are args a b is)) (later_of_all a (b ∷ []) n (first_of_all b [] n occurs))

  three_first : (a b c : PureValue) → three_of args ≡ Ok (a, b, c) → (n : ℕ) → OccursIn n a → OccursAmong n args
  three_first a b c is n occurs = subst (OccursAmong n) (sym (three_are args a b c is)) (first_of_all a (b ∷ c ∷ []) n occurs)

  three_third : (a b c : PureValue) → three_of args ≡ Ok (a, b, c) → (n : ℕ) → OccursIn n c → OccursAmong n args
  three_third a b c is n occurs = subst (OccursAmong n) (sym (three_are args a b c is)) (later_of_all a (b ∷ c ∷ []) n (later_of_all b (c ∷ []) n (first_of_all c [] n occurs)))

  -- ---- what several memories read

  pub location_occurs : (l : ℕ) → location_in args ≡ Ok l → OccursAmong l args
  location_occurs l is =
      let a = then_ok (one_of args) symbol_of l is in
      one_symbols a.0 a.1 l (symbol_in a.0 l a.2)

  pub property_occurs : (l : ℕ) (p : List ℕ) → property_in args ≡ Ok (l, p) → OccursAmong l args
  property_occurs l p is =
      let ab = then_ok (two_of args) _ (l, p) is in
      let m = then_ok (symbol_of ab.0.0) _ (l, p) ab.2 in
      let q = then_ok (text_of ab.0.1) _ (l, p) m.2 in
      let same : m.0 ≡ l = ap (λ (r : ℕ × List ℕ). r.0) (same_ok (m.0, q.0) (l, p) q.2) in
      first_symbols ab.0.0 ab.0.1 ab.1 l (symbol_in ab.0.0 l (m.1 ∙ ap Ok same))

  pub property_and_value_occur : (l : ℕ) (p : List ℕ) (v : PureValue) → property_and_value_in args ≡ Ok (l, p, v) → OccursAmong l args × ((n : ℕ) → OccursIn n v → OccursAmong n args)
  property_and_value_occur l p v is =
      let abc = then_ok (three_of args) _ (l, p, v) is in
      let m = then_ok (symbol_of abc.0.0) _ (l, p, v) abc.2 in
      let q = then_ok (text_of abc.0.1) _ (l, p, v) m.2 in
      let all = same_ok (m.0, q.0, abc.0.2) (l, p, v) q.2 in
      let same : m.0 ≡ l = ap (λ (r : ℕ × List ℕ × PureValue). r.0) all in
      let value : abc.0.2 ≡ v = ap (λ (r : ℕ × List ℕ × PureValue). r.2) all in (
        three_first abc.0.0 abc.0.1 abc.0.2 abc.1 l (symbol_in abc.0.0 l (m.1 ∙ ap Ok same)),
        λ n occurs. three_third abc.0.0 abc.0.1 abc.0.2 abc.1 n (subst (OccursIn n) (sym value) occurs),
      )
