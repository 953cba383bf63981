-- Text literals.
use Rattle.std.proofs.Common.{◌≡◌, ℕ, ◌+◌, ◌<◌, true, false, eqb, List, [], ◌∷◌, ◌++◌, length, drop, get_or, append_assoc, refl, ap, sym, ◌∙◌, Result, Ok, Err, Option, Some, None, add_assoc}
use Rattle.std.proofs.lemmas.List.{at_drop_more}
use Rattle.gil_lexer.specs.Bytes.{quote, backslash, is_printable, is_plain, is_escape}
use Rattle.gil_lexer.specs.Reading.{one_more, literal_len, with_character, escaped_character, unescaped}
use Rattle.gil_lexer.specs.declared.faults.LexKind.{LexKind}

-- n bytes more
abbrev pub more : ℕ → Result ℕ LexKind → Result ℕ LexKind
more n (Ok m) = Ok (n + m)
more n (Err kind) = Err kind

more-one_more : (n : ℕ) (r : Result ℕ LexKind) → more n (one_more r) ≡ more (n + 1) r
more-one_more n (Ok m) = ap Ok (sym (add_assoc n 1 m))
more-one_more n (Err kind) = refl

-- a turn of the scan behind a backslash
pub escaped_turn : (text : List ℕ) (i : ℕ) (whole : Result ℕ LexKind) → i < length text → more i (literal_len true (drop i text)) ≡ whole → is_escape (get_or text i 0) ≡ true → more (i + 1) (literal_len false (drop (i + 1) text)) ≡ whole
escaped_turn text i whole lt kept passes =
    let turn = at_drop_more (λ rest. more i (literal_len true rest)) text i 0 lt in
    let read = rw passes at turn in
    sym (more-one_more i _) ∙ sym read ∙ kept

-- a turn at a backslash
pub backslash_turn : (text : List ℕ) (i : ℕ) (whole : Result ℕ LexKind) → i < length text → more i (literal_len false (drop i text)) ≡ whole → get_or text i 0 ≡ backslash → more (i + 1) (literal_len true (drop (i + 1) text)) ≡ whole
backslash_turn text i whole lt kept is =
    let turn = at_drop_more (λ rest. more i (literal_len false rest)) text i 0 lt in
    let read = rw is at turn in
    sym (more-one_more i _) ∙ sym read ∙ kept

-- a turn at a character that stands for itself
pub plain_turn : (text : List ℕ) (i : ℕ) (whole : Result ℕ LexKind) → i < length text → more i (literal_len false (drop i text)) ≡ whole → eqb (get_or text i 0) quote ≡ false → eqb (get_or text i 0) backslash ≡ false → is_printable (get_or text i 0) ≡ true → more (i + 1) (literal_len false (drop (i + 1) text)) ≡ whole
plain_turn text i whole lt kept no_quote no_backslash passes =
    let turn = at_drop_more (λ rest. more i (literal_len false rest)) text i 0 lt in
    let read = rw (no_quote, no_backslash, passes) at turn in
    sym (more-one_more i _) ∙ sym read ∙ kept

-- with these characters before
abbrev pub behind : List ℕ → Option (List ℕ) → Option (List ℕ)
behind cs None = None
behind cs (Some ds) = Some (cs ++ ds)

behind-with_character : (cs : List ℕ) (c : ℕ) (o : Option (List ℕ)) → behind cs (with_character c o) ≡ behind (cs ++ c ∷ []) o
behind-with_character cs c None = refl
behind-with_character cs c (Some ds) = ap Some (sym (append_assoc cs (c ∷ []) ds))

pub unescaped_escaped_turn : (body cs : List ℕ) (i : ℕ) (whole : Option (List ℕ)) → i < length body → behind cs (unescaped true (drop i body)) ≡ whole → is_escape (get_or body i 0) ≡ true → behind (cs ++ escaped_character (get_or body i 0) ∷ []) (unescaped false (drop (i + 1) body)) ≡ whole
unescaped_escaped_turn body cs i whole lt kept passes =
    let turn = at_drop_more (λ rest. behind cs (unescaped true rest)) body i 0 lt in
    let read = rw passes at turn in
    sym (behind-with_character cs _ _) ∙ sym read ∙ kept

pub unescaped_backslash_turn : (body cs : List ℕ) (i : ℕ) (whole : Option (List ℕ)) → i < length body → behind cs (unescaped false (drop i body)) ≡ whole → get_or body i 0 ≡ backslash → behind cs (unescaped true (drop (i + 1) body)) ≡ whole
unescaped_backslash_turn body cs i whole lt kept is =
    let turn = at_drop_more (λ rest. behind cs (unescaped false rest)) body i 0 lt in
    let read = rw is at turn in
    sym read ∙ kept

pub unescaped_plain_turn : (body cs : List ℕ) (i : ℕ) (whole : Option (List ℕ)) → i < length body → behind cs (unescaped false (drop i body)) ≡ whole → eqb (get_or body i 0) backslash ≡ false → is_plain (get_or body i 0) ≡ true → behind (cs ++ get_or body i 0 ∷ []) (unescaped false (drop (i + 1) body)) ≡ whole
unescaped_plain_turn body cs i whole lt kept no_backslash passes =
    let turn = at_drop_more (λ rest. behind cs (unescaped false rest)) body i 0 lt in
    let read = rw (passes, no_backslash) at turn in
    sym (behind-with_character cs _ _) ∙ sym read ∙ kept
