-- Operators invent no symbol: what holds of each symbol of the operands holds of each symbol of the result.
use Rattle.std.proofs.Common.{◌≡◌, ⊎_elim, ℕ, zero, suc, ℤ, pos, negsuc, List, [], ◌∷◌, ◌++◌, Bool, true, false, cond, Option, Some, None, Ok, Err, slice_get, arith}
use Rattle.std.specs.Ordering.{int_eq}
use Rattle.std.specs.List.{Contains}
use Rattle.std.proofs.lemmas.List.Elements.{Contains-append_left, Contains-append_right, Contains-append_cases}
use Rattle.gil_values.specs.declared.operators.UnOp.{UnOp}
use Rattle.gil_values.specs.declared.operators.UnOp.TheVariants.{Not, Neg, Len, Kind}
use Rattle.gil_values.specs.declared.operators.BinOp.{BinOp}
use Rattle.gil_values.specs.declared.operators.BinOp.TheVariants.{Add, Subtract, Multiply, Divide, Remainder, Equal, Less, LessOrEqual, And, Or, Append, Nth}
use Rattle.gil_values.specs.Pure.{PureValue, integer, boolean, text, symbol, kind, procedure, list, PureValues, no_values, value_and, from_list as list_elements, to_list as elements_of}
use Rattle.gil_values.specs.Symbols.{symbols, symbols_of_elements, symbols_of_all}
use Rattle.gil_values.specs.Operators.{Outcome, on_integers, on_booleans, appended, element_or_fault, element_at, element, negation, opposite, size, unary, binary}

pub none_contained : {X : Type 0} (x : X) → ¬ Contains [] x
none_contained x is = omega (arith, is.1)

module _ (P : ℕ → Type 0) where
  -- P of each symbol of a list, of a value, and of several values
  abbrev pub Each : List ℕ → Type 0
  Each ns = (n : ℕ) → Contains ns n → P n

  abbrev pub Holds : PureValue → Type 0
  Holds v = Each (symbols v)

  abbrev pub HoldsOfAll : List PureValue → Type 0
  HoldsOfAll [] = Unit {0}
  HoldsOfAll (v ∷ vs) = Holds v × HoldsOfAll vs

  abbrev pub HoldsIfValue : Outcome → Type 0
  HoldsIfValue (Ok v) = Holds v
  HoldsIfValue (Err f) = Unit {0}

  pub each-nil : Each []
  each-nil n is = absurd (none_contained n is)

  pub each-append : (ms ns : List ℕ) → Each ms → Each ns → Each (ms ++ ns)
  each-append ms ns h k n is = ⊎_elim (h n) (k n) (Contains-append_cases ms ns n is)

  pub each-left : (ms ns : List ℕ) → Each (ms ++ ns) → Each ms
  each-left ms ns h n is = h n (Contains-append_left ms ns n is)

  pub each-right : (ms ns : List ℕ) → Each (ms ++ ns) → Each ns
  each-right ms ns h n is = h n (Contains-append_right ms ns n is)

  pub holds_of_list : (vs : List PureValue) → HoldsOfAll vs → Holds (list (list_elements vs))
  holds_of_list [] h = each-nil
  holds_of_list (v ∷ vs) h = each-append (symbols v) _ h.0 (holds_of_list vs h.1)

  holds_of_elements : (vs : PureValues) → Each (symbols_of_elements vs) → HoldsOfAll (elements_of vs)
  holds_of_elements no_values h = tt
  holds_of_elements (value_and v vs) h = (each-left (symbols v) _ h, holds_of_elements vs (each-right (symbols v) _ h))

  holds_of_both : (vs ws : List PureValue) → HoldsOfAll vs → HoldsOfAll ws → HoldsOfAll (vs ++ ws)
  holds_of_both [] ws h k = k
  holds_of_both (v ∷ vs) ws h k = (h.0, holds_of_both vs ws h.1 k)

  holds_at : (vs : List PureValue) (i : ℕ) → HoldsOfAll vs → HoldsIfValue (element_or_fault (slice_get vs i))
  holds_at [] i h = tt
  holds_at (v ∷ vs) zero h = h.0
  holds_at (v ∷ vs) (suc i) h = holds_at vs i h.1

  negation-holds : (v : PureValue) → HoldsIfValue (negation v)
  negation-holds (boolean b) = each-nil
  negation-holds _ = tt

  opposite-holds : (v : PureValue) → HoldsIfValue (opposite v)
  opposite-holds (integer n) = each-nil
  opposite-holds _ = tt

  size-holds : (v : PureValue) → HoldsIfValue (size v)
  size-holds (text cs) = each-nil
  size-holds (list vs) = each-nil
  size-holds _ = tt

  pub unary-holds : (op : UnOp) (v : PureValue) → HoldsIfValue (unary op v)
  unary-holds Not v = negation-holds v
  unary-holds Neg v = opposite-holds v
  unary-holds Len v = size-holds v
  unary-holds Kind v = each-nil

  on_integers-holds : (f : ℤ → ℤ → Outcome) → ((m n : ℤ) → HoldsIfValue (f m n)) → (v w : PureValue) → HoldsIfValue (on_integers f v w)
  on_integers-holds f h (integer m) (integer n) = h m n
  on_integers-holds f h _ _ = tt

  on_booleans-holds : (f : Bool → Bool → Outcome) → ((a b : Bool) → HoldsIfValue (f a b)) → (v w : PureValue) → HoldsIfValue (on_booleans f v w)
  on_booleans-holds f h (boolean a) (boolean b) = h a b
  on_booleans-holds f h _ _ = tt

  choice-holds : (b : Bool) (r t : Outcome) → HoldsIfValue r → HoldsIfValue t → HoldsIfValue (cond b r t)
  choice-holds true r t h k = h
  choice-holds false r t h k = k

  appended-holds : (v w : PureValue) → Holds v → Holds w → HoldsIfValue (appended v w)
  appended-holds (text s) (text t) h k = each-nil
  appended-holds (list vs) (list ws) h k = holds_of_list (elements_of vs ++ elements_of ws) (holds_of_both _ _ (holds_of_elements vs h) (holds_of_elements ws k))
  appended-holds _ _ h k = tt

  element_at-holds : (vs : List PureValue) (i : ℤ) → HoldsOfAll vs → HoldsIfValue (element_at vs i)
  element_at-holds vs (pos i) h = holds_at vs i h
  element_at-holds vs (negsuc i) h = tt

  element-holds : (v w : PureValue) → Holds v → HoldsIfValue (element v w)
  element-holds (list vs) (integer i) h = element_at-holds (elements_of vs) i (holds_of_elements vs h)
  element-holds _ _ h = tt

  pub binary-holds : (op : BinOp) (v w : PureValue) → Holds v → Holds w → HoldsIfValue (binary op v w)
  binary-holds Add v w h k = on_integers-holds _ (λ m n. each-nil) v w
  binary-holds Subtract v w h k = on_integers-holds _ (λ m n. each-nil) v w
  binary-holds Multiply v w h k = on_integers-holds _ (λ m n. each-nil) v w
  binary-holds Divide v w h k = on_integers-holds _ (λ m n. choice-holds (int_eq n (pos 0)) _ _ tt each-nil) v w
  binary-holds Remainder v w h k = on_integers-holds _ (λ m n. choice-holds (int_eq n (pos 0)) _ _ tt each-nil) v w
  binary-holds Equal v w h k = each-nil
  binary-holds Less v w h k = on_integers-holds _ (λ m n. each-nil) v w
  binary-holds LessOrEqual v w h k = on_integers-holds _ (λ m n. each-nil) v w
  binary-holds And v w h k = on_booleans-holds _ (λ a b. each-nil) v w
  binary-holds Or v w h k = on_booleans-holds _ (λ a b. each-nil) v w
  binary-holds Append v w h k = appended-holds v w h k
  binary-holds Nth v w h k = element-holds v w h

  pub each_of_all : (vs : List PureValue) → HoldsOfAll vs → Each (symbols_of_all vs)
  each_of_all [] h = each-nil
  each_of_all (v ∷ vs) h = each-append (symbols v) (symbols_of_all vs) h.0 (each_of_all vs h.1)

  pub all_of_each : (vs : List PureValue) → Each (symbols_of_all vs) → HoldsOfAll vs
  all_of_each [] h = tt
  all_of_each (v ∷ vs) h = (each-left (symbols v) (symbols_of_all vs) h, all_of_each vs (each-right (symbols v) (symbols_of_all vs) h))
