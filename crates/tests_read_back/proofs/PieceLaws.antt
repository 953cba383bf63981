-- Pieces that are split off the front of bytes.
use Rattle.std.proofs.Common.{◌≡◌, ℕ, ◌<◌, ◌^◌, not, ◌&&◌, eqb, leb, ltb, List, [], ◌∷◌, ◌++◌, length, take, Some, None, refl, sym, ap, subst, ◌∙◌, arith, inl, inr, length-append}
use Rattle.std.specs.Prelude.{codes, IsTrue}
use Rattle.std.specs.Char.{is_ascii_digit}
use Rattle.std.specs.List.{list_all, prefix_len, IsSplitAt}
use Rattle.std.specs.Str.Parse.{digits_value}
use Rattle.std.proofs.lemmas.Bool.{and_parts, cases_Bool, eqb-true}
use Rattle.std.proofs.lemmas.List.{take-append-drop}
use Rattle.std.proofs.lemmas.Option.{same_Some}
use Rattle.std.proofs.Math.Seq.{take-append_seam, drop-append_seam}
use Rattle.value_text.specs.declared.faults.ReadFault.{ReadFault}
use Rattle.value_text.specs.declared.faults.ReadFault.TheVariants as faults
use Rattle.value_text.specs.Reading.{Fails, behind, magnitude, number_at, natural_at}
use Rattle.value_text.proofs.NumberLaws.{natural_again}
use Rattle.value_text.proofs.Says.{step, branch}
use Rattle.value_text.proofs.WordLaws.{behind_again}
use Rattle.tests_read_back.specs.Pieces.{IsPiece, IsWritten, split}

-- ---- what is split

-- digits that write a number, and what follows
abbrev IsNumber : List ℕ → ℕ → List ℕ → Type 0
IsNumber bytes n rest = (digits : List ℕ) × IsTrue (list_all is_ascii_digit digits) × (digits_value 10 digits ≡ n) × (bytes ≡ digits ++ rest)

magnitude_writes : (ds : List ℕ) (n : ℕ) → magnitude ds ≡ Some n → IsTrue (list_all is_ascii_digit ds) × (digits_value 10 ds ≡ n)
magnitude_writes ds n e =
    elim (cases_Bool (list_all is_ascii_digit ds && not (eqb (length ds) 0) && leb (digits_value 10 ds) (2 ^ 127))) [
      | inl test ↦
          let outer = and_parts (list_all is_ascii_digit ds && not (eqb (length ds) 0)) (leb (digits_value 10 ds) (2 ^ 127)) test in
          let inner = and_parts (list_all is_ascii_digit ds) (not (eqb (length ds) 0)) outer.0 in
          let is : Some (digits_value 10 ds) ≡ Some n = rw test at e in
          (inner.0, same_Some (digits_value 10 ds) n is)
      | inr test ↦ let is = rw test at e in absurd (cc is)
    ]

number_writes : (bytes : List ℕ) (y : ℕ × List ℕ) → number_at bytes ≡ Some y → IsNumber bytes y.0 y.1
unfolding number_at
number_writes bytes y e =
    let k = prefix_len is_ascii_digit bytes in
    let s = step (magnitude (take k bytes)) _ y e in
    let w = magnitude_writes (take k bytes) s.first s.read in
    subst (λ p. IsNumber bytes p.0 p.1) (same_Some _ _ s.then_read) (take k bytes, w.0, w.1, sym (take-append-drop k bytes))

natural_writes : (bits : ℕ) (bytes : List ℕ) (y : ℕ × List ℕ) → natural_at bits bytes ≡ Some y → IsNumber bytes y.0 y.1
unfolding natural_at
natural_writes bits bytes y e =
    let s = step (number_at bytes) _ y e in
    elim (branch {A = ℕ × List ℕ} (ltb s.first.0 (2 ^ bits)) (Some s.first) None y s.then_read) [
      | inl (test, is) ↦ subst (λ p. IsNumber bytes p.0 p.1) (same_Some _ _ is) (number_writes bytes s.first s.read)
      | inr (test, is) ↦ absurd (cc is)
    ]

-- a line feed that was read, and what follows
line_feed_writes : (bytes rest : List ℕ) → behind (codes "\n") bytes ≡ Some rest → bytes ≡ codes "\n" ++ rest
unfolding behind
line_feed_writes [] rest e = absurd (cc e)
line_feed_writes (b ∷ bytes) rest e = elim (branch {A = List ℕ} (eqb b 10) (Some bytes) None rest e) [
  | inl (test, is) ↦ rw (eqb-true b 10 test, same_Some bytes rest is) refl
  | inr (test, is) ↦ absurd (cc is)
]

-- a number, a line feed and so many bytes are a piece
pub is_piece : (bytes line behind_it piece rest : List ℕ) (n : ℕ) → natural_at 64 bytes ≡ Some (n, line) → behind (codes "\n") line ≡ Some behind_it
    → IsSplitAt behind_it n piece rest → IsPiece bytes piece rest
is_piece bytes line behind_it piece rest n number feed (fits, front, back, size, left) =
    let (digits, all, value, is) = natural_writes 64 bytes (n, line) number in
    let whole : behind_it ≡ piece ++ rest = sym (take-append-drop n behind_it) ∙ sym (rw (front, back) refl) in
    (digits, all, value ∙ sym size, is ∙ ap (λ l. digits ++ l) (line_feed_writes line behind_it feed ∙ ap (λ l. codes "\n" ++ l) whole))

-- ---- what is found

pub number_found : (bytes piece rest : List ℕ) → length piece < 2 ^ 64 → IsWritten bytes piece rest → natural_at 64 bytes ≡ Some (length piece, codes "\n" ++ piece ++ rest)
number_found bytes piece rest fits is =
    ap (natural_at 64) is ∙ natural_again 64 (length piece) (codes "\n" ++ piece ++ rest) fits (omega (arith, fits)) refl

-- the number that was read is the piece's length, and what stands behind the line feed is the piece and the rest
pub line_found : (bytes piece rest line : List ℕ) (n : ℕ) → length piece < 2 ^ 64 → IsWritten bytes piece rest → natural_at 64 bytes ≡ Some (n, line)
    → (n ≡ length piece) × (behind (codes "\n") line ≡ Some (piece ++ rest))
line_found bytes piece rest line n fits is number =
    let same = same_Some (n, line) (length piece, codes "\n" ++ piece ++ rest) (sym number ∙ number_found bytes piece rest fits is) in
    (ap (λ p. p.0) same, ap (λ p. behind (codes "\n") p.1) same ∙ behind_again (codes "\n") (piece ++ rest))

fails_alike : {X Y : Type 0} (fault : ReadFault) (x : X) (y : Y) → Fails fault (Some x) → Fails fault (Some y)
fails_alike faults.Memory x y fails = tt
fails_alike faults.Form x y fails = absurd (cc fails)

-- the number of a piece is read
pub number_fails : (fault : ReadFault) (bytes piece rest : List ℕ) → length piece < 2 ^ 64 → IsWritten bytes piece rest → Fails fault (natural_at 64 bytes)
    → Fails fault (split piece rest)
number_fails fault bytes piece rest fits is fails =
    fails_alike {X = ℕ × List ℕ} {Y = List ℕ × List ℕ} fault (length piece, codes "\n" ++ piece ++ rest) (piece, rest)
    (subst (Fails fault) (number_found bytes piece rest fits is) fails)

-- and so is the line feed behind it
pub line_feed_fails : (fault : ReadFault) (bytes piece rest line : List ℕ) (n : ℕ) → length piece < 2 ^ 64 → IsWritten bytes piece rest
    → natural_at 64 bytes ≡ Some (n, line) → Fails fault (behind (codes "\n") line) → Fails fault (split piece rest)
line_feed_fails fault bytes piece rest line n fits is number fails =
    fails_alike {X = List ℕ} {Y = List ℕ × List ℕ} fault (piece ++ rest) (piece, rest)
    (subst (Fails fault) (line_found bytes piece rest line n fits is number).1 fails)

module _ (bytes piece rest line behind_it : List ℕ) (n : ℕ) (fits : length piece < 2 ^ 64) (is : IsWritten bytes piece rest)
    (number : natural_at 64 bytes ≡ Some (n, line)) (feed : behind (codes "\n") line ≡ Some behind_it) where
  size : n ≡ length piece
  size = (line_found bytes piece rest line n fits is number).0

  whole : behind_it ≡ piece ++ rest
  whole = same_Some behind_it (piece ++ rest) (sym feed ∙ (line_found bytes piece rest line n fits is number).1)

  -- what is split off is the piece, and the rest is left
  pub is_split : (front back : List ℕ) → IsSplitAt behind_it n front back → split piece rest ≡ split front back
  is_split front back cut =
      let first : front ≡ piece = cut.1 ∙ rw (size, whole) (take-append_seam piece rest) in
      let second : back ≡ rest = cut.2 ∙ rw (size, whole) (drop-append_seam piece rest) in
      rw (first, second) refl

  -- there are as many bytes as the number says
  pub are_enough : length behind_it < n → ⊥
  are_enough short = omega (arith, size, ap length whole, length-append piece rest, short)
