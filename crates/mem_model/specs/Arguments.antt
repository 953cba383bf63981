-- Reading the arguments of an action: first how many there are, then the kind of each.
use Rattle.std.specs.Prelude.{◌≡◌, ℕ, List, [], ◌∷◌, Result, Ok, Err}
use Rattle.gil_values.specs.Pure.{PureValue, text, symbol}
use Rattle.mem_model.specs.declared.failures.Failure.{Failure}

abbrev pub and_then : {X Y : Type 0} → Result X Failure → (X → Result Y Failure) → Result Y Failure
and_then (Ok x) f = f x
and_then (Err e) f = Err e

-- ---- how many

abbrev pub one_of : List PureValue → Result PureValue Failure
one_of (a ∷ []) = Ok a
one_of _ = Err Failure.Arity

abbrev pub two_of : List PureValue → Result (PureValue × PureValue) Failure
two_of (a ∷ b ∷ []) = Ok (a, b)
two_of _ = Err Failure.Arity

abbrev pub three_of : List PureValue → Result (PureValue × PureValue × PureValue) Failure
three_of (a ∷ b ∷ c ∷ []) = Ok (a, b, c)
three_of _ = Err Failure.Arity

-- ---- of which kind

abbrev pub symbol_of : PureValue → Result ℕ Failure
symbol_of (symbol l) = Ok l
symbol_of _ = Err Failure.Kind

abbrev pub text_of : PureValue → Result (List ℕ) Failure
text_of (text p) = Ok p
text_of _ = Err Failure.Kind

-- ---- what actions of several memories take

-- a location
abbrev pub location_in : List PureValue → Result ℕ Failure
location_in args = and_then (one_of args) symbol_of

-- a property of a location
abbrev pub property_in : List PureValue → Result (ℕ × List ℕ) Failure
property_in args = and_then (two_of args) (λ (a, b). and_then (symbol_of a) (λ l. and_then (text_of b) (λ p. Ok (l, p))))

-- a property of a location, and a value of any kind
abbrev pub property_and_value_in : List PureValue → Result (ℕ × List ℕ × PureValue) Failure
property_and_value_in args =
    and_then (three_of args) (λ (a, b, v). and_then (symbol_of a) (λ l. and_then (text_of b) (λ p. Ok (l, p, v))))

-- what code reads, seen by view, is what is to be read
abbrev pub Reads : {X Y : Type 0} → (X → Y) → Result X Failure → Result Y Failure → Type 0
Reads view (Ok x) r = r ≡ Ok (view x)
Reads view (Err e) r = r ≡ Err e
