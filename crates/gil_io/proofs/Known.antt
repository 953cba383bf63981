-- Bytes that are read from a source, or given to a sink, in several calls.
use Rattle.std.proofs.Common.{◌≡◌, ◌<◌, ◌≤◌, ℕ, ◌+◌, List, [], ◌++◌, Option, None, Some, Result, Ok, Err, OnErr, IfSome, refl, sym, ap, subst, ◌∙◌, append_assoc, length, take, drop, arith, length-append, length-take, length-drop, take-append-drop}
use Rattle.std.proofs.lemmas.List.{append-nil, take_all, take_at}
use Rattle.std.specs.Io.KnownBytes.{Appends, Consumes, IsAtEnd, Keeps}
use Rattle.gil_io.specs.Writing.{TakesPart}

-- nothing is consumed at first
pub consumes_nothing : (known : Option (List ℕ)) → Consumes known known []
consumes_nothing None = tt
consumes_nothing (Some xs) = refl

-- what two reads took, one after the other
pub taken_more : (old mid new : Option (List ℕ)) (first second : List ℕ) → Consumes old mid first → Consumes mid new second → Consumes old new (first ++ second)
taken_more None mid new first second before after = tt
taken_more (Some xs) None new first second before after = absurd before
taken_more (Some xs) (Some ys) None first second before after = absurd after
taken_more (Some xs) (Some ys) (Some zs) first second before after =
    before ∙ ap (λ rest. first ++ rest) after ∙ sym (append_assoc first second zs)

-- and where the second took nothing
pub taken_so_far : (old mid new : Option (List ℕ)) (first : List ℕ) → Consumes old mid first → Keeps mid new → Consumes old new first
taken_so_far None mid new first before after = tt
taken_so_far (Some xs) None new first before after = absurd before
taken_so_far (Some xs) (Some ys) None first before after = absurd after
taken_so_far (Some xs) (Some ys) (Some zs) first before after = before ∙ ap (λ rest. first ++ rest) (sym after)

-- what was taken up to the end is all that was left
pub taken_whole : (old mid new : Option (List ℕ)) (first second : List ℕ) → Consumes old mid first → Consumes mid new second → second ≡ [] → IsAtEnd new
    → IfSome old (λ left. first ≡ left)
taken_whole None mid new first second before after none end = tt
taken_whole (Some xs) None new first second before after none end = absurd before
taken_whole (Some xs) (Some ys) None first second before after none end = absurd after
taken_whole (Some xs) (Some ys) (Some zs) first second before after none end =
    let nothing : ys ≡ [] = after ∙ ap (λ bs. bs ++ zs) none ∙ end in
    sym (before ∙ ap (λ rest. first ++ rest) nothing ∙ append-nil first)

pub length-front : (first bytes : List ℕ) (count : ℕ) → count ≤ length bytes → length (first ++ take count bytes) ≡ length first + count
length-front first bytes count fits = simp (length-append, length-take) (omega arith)

pub appends_nothing : (known : Option (List ℕ)) → Appends known known []
appends_nothing None = tt
appends_nothing (Some xs) = sym (append-nil xs)

-- what two writes gave, one after the other
pub appends_more : (old mid new : Option (List ℕ)) (first second : List ℕ) → Appends old mid first → Appends mid new second → Appends old new (first ++ second)
appends_more None mid new first second before after = tt
appends_more (Some xs) None new first second before after = absurd before
appends_more (Some xs) (Some ys) None first second before after = absurd after
appends_more (Some xs) (Some ys) (Some zs) first second before after =
    after ∙ ap (λ all. all ++ second) before ∙ append_assoc xs first second

-- and where the second gave nothing
pub appends_so_far : (old mid new : Option (List ℕ)) (first : List ℕ) → Appends old mid first → Keeps mid new → Appends old new first
appends_so_far None mid new first before after = tt
appends_so_far (Some xs) None new first before after = absurd before
appends_so_far (Some xs) (Some ys) None first before after = absurd after
appends_so_far (Some xs) (Some ys) (Some zs) first before after = after ∙ before

-- the sink has taken the bytes that stand before the rest
pub record Given (old now : Option (List ℕ)) (bytes rest : List ℕ) : Type 0 where
  pub front : List ℕ
  pub split : bytes ≡ front ++ rest
  pub taken : Appends old now front

pub given_none : (known : Option (List ℕ)) (bytes : List ℕ) → Given known known bytes bytes
given_none known bytes = record { front = []; split = refl; taken = appends_nothing known }

pub given_more : (old mid new : Option (List ℕ)) (bytes rest : List ℕ) (count size : ℕ) → Given old mid bytes rest → Appends mid new (take count rest)
    → length rest ≤ size + count → Given old new bytes (take size (drop count rest))
given_more old mid new bytes rest count size given more fits = record {
  front = given.front ++ take count rest;
  split =
      given.split
      ∙ ap (λ l. given.front ++ l) (sym (take-append-drop count rest))
      ∙ sym (append_assoc given.front (take count rest) (drop count rest))
      ∙ ap (λ l. (given.front ++ take count rest) ++ l) (sym (take_all size (drop count rest) (omega (arith, length-drop count rest))));
  taken = appends_more old mid new given.front (take count rest) given.taken more;
}

pub given_all : (old new : Option (List ℕ)) (bytes rest : List ℕ) → Given old new bytes rest → rest ≡ [] → Appends old new bytes
given_all old new bytes rest given none =
    subst (Appends old new) (sym (given.split ∙ ap (λ more. given.front ++ more) none ∙ append-nil given.front)) given.taken

pub given_part : (old mid new : Option (List ℕ)) (bytes rest : List ℕ) → Given old mid bytes rest → Keeps mid new → 0 < length rest → TakesPart old new bytes
given_part old mid new bytes rest given same more =
    let size : length bytes ≡ length given.front + length rest = ap length given.split ∙ length-append given.front rest in
    let front : take (length given.front) bytes ≡ given.front = ap (take (length given.front)) given.split ∙ take_at given.front rest (length given.front) refl in
    (length given.front, omega arith, subst (Appends old new) (sym front) (appends_so_far old mid new given.front given.taken same))

-- a fact that holds whatever the answer is
pub on_err : {T E P : Type 0} (r : Result T E) → P → OnErr r P
on_err (Ok x) fact = tt
on_err (Err e) fact = fact
