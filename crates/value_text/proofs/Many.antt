-- Reading things one after another: as a loop does, and what was printed one after another.
use Rattle.std.proofs.Common.{◌≡◌, ℕ, zero, suc, ◌-◌, ◌+◌, ◌≤◌, ◌<◌, Bool, true, false, List, [], ◌∷◌, ◌++◌, length, Some, None, refl, sym, ap, ◌∙◌, append_assoc, arith}
use Rattle.std.specs.List.{AllByRecursion, flat_map}
use Rattle.std.proofs.lemmas.List.{append-nil}
use Rattle.value_text.specs.declared.faults.ReadFault.{ReadFault}
use Rattle.value_text.specs.declared.faults.ReadFault.TheVariants as faults
use Rattle.value_text.specs.Reading.{Reading, Fails, with_front, many_at}

pub regroup : {X : Type 0} (front : List X) (x : X) (read : Reading (List X)) → with_front front (with_front (x ∷ []) read) ≡ with_front (front ++ x ∷ []) read
regroup front x (Some xs) = ap (λ ys. Some (ys, xs.1)) (simp append_assoc)
regroup front x None = refl

module _ {X : Type 0} (stops : List ℕ → Bool) (read : List ℕ → Reading X) (front : List X) (n i : ℕ) (bytes : List ℕ) (total : Reading (List X)) where
  pub goes_on : (x : X) (after : List ℕ) → i < n → stops bytes ≡ false → read bytes ≡ Some (x, after)
      → with_front front (many_at stops read (n - i) bytes) ≡ total → with_front (front ++ x ∷ []) (many_at stops read (n - (i + 1)) after) ≡ total
  unfolding many_at
  goes_on x after lt test h so_far =
      let k : n - i ≡ suc (n - (i + 1)) = omega arith in
      let one : with_front front (many_at stops read (n - i) bytes) ≡ with_front (front ++ x ∷ []) (many_at stops read (n - (i + 1)) after) = rw (k, test, h) (regroup front x (many_at stops read (n - (i + 1)) after)) in
      sym one ∙ so_far

  pub fails : (fault : ReadFault) → i < n → stops bytes ≡ false → Fails fault (read bytes)
      → with_front front (many_at stops read (n - i) bytes) ≡ total → Fails fault total
  unfolding many_at
  fails faults.Memory lt test h so_far = tt
  fails faults.Form lt test h so_far =
      let k : n - i ≡ suc (n - (i + 1)) = omega arith in
      let one : with_front front (many_at stops read (n - i) bytes) ≡ None = rw (k, test, h) refl in
      sym so_far ∙ one

  pub ends : i < n → stops bytes ≡ true → with_front front (many_at stops read (n - i) bytes) ≡ total → total ≡ Some (front, bytes)
  unfolding many_at
  ends lt test so_far =
      let k : n - i ≡ suc (n - (i + 1)) = omega arith in
      let one : with_front front (many_at stops read (n - i) bytes) ≡ Some (front, bytes) = rw (k, test) (ap (λ xs. Some (xs, bytes)) (append-nil front)) in
      sym so_far ∙ one

  pub is_done : n ≤ i → with_front front (many_at stops read (n - i) bytes) ≡ total → total ≡ Some (front, bytes)
  unfolding many_at
  is_done le so_far =
      let k : n - i ≡ 0 = omega arith in
      let one : with_front front (many_at stops read (n - i) bytes) ≡ Some (front, bytes) = rw k (ap (λ xs. Some (xs, bytes)) (append-nil front)) in
      sym so_far ∙ one

-- ---- what was printed

module _ {X : Type 0} (stops : List ℕ → Bool) (read : List ℕ → Reading X) (printed : X → List ℕ) (Follows : List ℕ → Type 0) where
  -- one of them is read again, whatever follows as it may
  pub record IsAgain (x : X) (rest : List ℕ) : Type 0 where
    pub again : read (printed x ++ rest) ≡ Some (x, rest)
    pub some : stops (printed x ++ rest) ≡ false
    pub follows : Follows (printed x ++ rest)

  abbrev pub Again : X → Type 0
  Again x = (rest : List ℕ) → Follows rest → IsAgain x rest

  record AreAgain (n : ℕ) (xs : List X) (rest : List ℕ) : Type 0 where
    pub read_again : many_at stops read n (flat_map printed xs ++ rest) ≡ Some (xs, rest)
    pub all_follow : Follows (flat_map printed xs ++ rest)

  are_again : (n : ℕ) (xs : List X) (rest : List ℕ) → AllByRecursion Again xs → Follows rest → stops rest ≡ true → length xs ≤ n → AreAgain n xs rest
  unfolding many_at
  are_again zero [] rest all follows stop le = record { read_again = refl; all_follow = follows }
  are_again (suc n) [] rest all follows stop le = record { read_again = rw stop refl; all_follow = follows }
  are_again zero (x ∷ xs) rest all follows stop le = absurd (omega arith)
  are_again (suc n) (x ∷ xs) rest all follows stop le =
      let more = are_again n xs rest all.1 follows stop (omega arith) in
      let one = all.0 (flat_map printed xs ++ rest) more.all_follow in
      let grouped = append_assoc (printed x) (flat_map printed xs) rest in
      record {
        read_again = rw (grouped, one.some, one.again, more.read_again) refl;
        all_follow = rw grouped one.follows;
      }

  pub many_again : (n : ℕ) (xs : List X) (rest : List ℕ) → AllByRecursion Again xs → Follows rest → stops rest ≡ true → length xs ≤ n
      → many_at stops read n (flat_map printed xs ++ rest) ≡ Some (xs, rest)
  many_again n xs rest all follows stop le = (are_again n xs rest all follows stop le).read_again

  pub many_follow : (n : ℕ) (xs : List X) (rest : List ℕ) → AllByRecursion Again xs → Follows rest → stops rest ≡ true → length xs ≤ n
      → Follows (flat_map printed xs ++ rest)
  many_follow n xs rest all follows stop le = (are_again n xs rest all follows stop le).all_follow
