-- Chains that share their ends.
use Rattle.std.proofs.Common.{◌≡◌, ℕ, suc, ◌+◌, ◌-◌, ◌<◌, List, [], ◌∷◌, ◌++◌, length, take, drop, get_or, reverse, sym, ap, ◌∙◌, arith, drop-cons}
use Rattle.std.proofs.Math.Seq.{drop-length}
use Rattle.std.proofs.lemmas.List.{take-append-drop}
use Rattle.equality_core.specs.Nodes.{ShareEnd, GoesBack}

drop-whole : (xs : List ℕ) → drop (length xs - 0) xs ≡ []
drop-whole xs =
    let whole : length xs - 0 ≡ length xs = omega arith in
    ap (λ n. drop n xs) whole ∙ drop-length xs

pub share_none : (xs ys : List ℕ) → ShareEnd xs ys 0
share_none xs ys = record { in_first = omega arith; in_second = omega arith; shared = drop-whole xs ∙ sym (drop-whole ys) }

drop-last : (xs : List ℕ) (k : ℕ) → k < length xs → drop (length xs - (k + 1)) xs ≡ get_or xs (length xs - (k + 1)) 0 ∷ drop (length xs - k) xs
drop-last xs k within =
    let next : suc (length xs - (k + 1)) ≡ length xs - k = omega (arith, within) in
    drop-cons xs (length xs - (k + 1)) 0 (omega (arith, within)) ∙ ap (λ n. get_or xs (length xs - (k + 1)) 0 ∷ drop n xs) next

pub share_more : (xs ys : List ℕ) (k : ℕ) → k < length xs → k < length ys → get_or xs (length xs - (k + 1)) 0 ≡ get_or ys (length ys - (k + 1)) 0 → ShareEnd xs ys k → ShareEnd xs ys (k + 1)
share_more xs ys k first second same share =
    record {
      in_first = omega (arith, first);
      in_second = omega (arith, second);
      shared = drop-last xs k first ∙ (λ i. same i ∷ share.shared i) ∙ sym (drop-last ys k second);
    }

pub goes_back : (along back way : List ℕ) (k : ℕ) → ShareEnd along back k → way ≡ take (length along - k) along ++ reverse (take (length back - k) back) → GoesBack along back way
goes_back along back way k share is =
    record {
      ahead = take (length along - k) along;
      behind = take (length back - k) back;
      shared = drop (length along - k) along;
      is_along = sym (take-append-drop (length along - k) along);
      is_back = sym (take-append-drop (length back - k) back) ∙ ap (λ xs. take (length back - k) back ++ xs) (sym share.shared);
      is_way = is;
    }
