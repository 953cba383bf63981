-- Words ask for one thing at most.
use Rattle.std.proofs.Common.{◌≡◌, ℕ, ℤ, List, [], ◌∷◌, ◌++◌, length, get_or, Bool, true, false, Option, Some, None, refl, sym, ◌∙◌, ap, ap₂, subst, arith, length-append, codes}
use Rattle.std.specs.Str.Parse.{IsNumeral, without_leading_sign}
use Rattle.gil_values.specs.Pure.{PureValue, integer, boolean, text, symbol, kind, procedure, list}
use Rattle.gil_lexer.specs.Bytes.{quote}
use Rattle.gil_lexer.specs.Spelling.{SpellsText}
use Rattle.gil_lexer.proofs.LiteralLaws.{literal_once}
use Rattle.gillian_words.specs.declared.tasks.Language.{Language}
use Rattle.gillian_words.specs.declared.tasks.Language.TheVariants.{GilRecord, GilBlock, GilObject, While, Clike, Object}
use Rattle.gillian_words.specs.declared.scan.Scan.TheVariants.{Outside}
use Rattle.gillian_words.specs.Asked.{AskFor, Asks, AsksTask, Given, IsGiven, IsOption, SpellsBound, SpellsEntry, SpellsSize}
use Rattle.gillian_words.specs.Tasks.{PureTask, run, test, check, infer, compile, solve, sweep, PureRequest, mode_word, language_word}
use Rattle.gillian_words.specs.Inputs.{comma, boolean_word, SpellsInput, SpellsInputs, SpellsNumber, SpellsSome}
use Rattle.gillian_words.specs.Pieces.{piece_len}
use Rattle.gillian_words.proofs.Scans.{first_piece, first_spelled, last_piece, more_spelled}

-- ---- values

number_not_boolean : (word : List ℕ) (z : ℤ) (b : Bool) → SpellsNumber word z → word ≡ boolean_word b → ⊥
number_not_boolean word z true number is =
    let digits = subst (λ w. IsNumeral 10 (without_leading_sign w)) is number.digits in omega (arith, digits.1.0)
number_not_boolean word z false number is =
    let digits = subst (λ w. IsNumeral 10 (without_leading_sign w)) is number.digits in omega (arith, digits.1.0)

number_not_text : (word cs : List ℕ) (z : ℤ) → SpellsNumber word z → SpellsText word cs → ⊥
number_not_text word cs z number literal =
    let digits = subst (λ w. IsNumeral 10 (without_leading_sign w)) literal.1 number.digits in omega (arith, digits.1.0)

boolean_not_text : (word cs : List ℕ) (b : Bool) → word ≡ boolean_word b → SpellsText word cs → ⊥
boolean_not_text word cs true is literal = let first : 116 ≡ quote = ap (λ bytes. get_or bytes 0 0) (sym is ∙ literal.1) in omega arith
boolean_not_text word cs false is literal = let first : 102 ≡ quote = ap (λ bytes. get_or bytes 0 0) (sym is ∙ literal.1) in omega arith

one_boolean : (b c : Bool) → boolean_word b ≡ boolean_word c → b ≡ c
one_boolean true true e = refl
one_boolean true false e = cc
one_boolean false true e = cc
one_boolean false false e = refl

one_input : (v w : PureValue) (word : List ℕ) → SpellsInput word v → SpellsInput word w → v ≡ w
one_input (integer m) (integer n) word h k = ap integer (h.number ∙ sym k.number)
one_input (integer m) (boolean b) word h k = absurd (number_not_boolean word m b h k)
one_input (integer m) (text cs) word h k = absurd (number_not_text word cs m h k)
one_input (boolean b) (integer n) word h k = absurd (number_not_boolean word n b k h)
one_input (boolean b) (boolean c) word h k = ap boolean (one_boolean b c (sym h ∙ k))
one_input (boolean b) (text cs) word h k = absurd (boolean_not_text word cs b h k)
one_input (text cs) (integer n) word h k = absurd (number_not_text word cs n k h)
one_input (text cs) (boolean b) word h k = absurd (boolean_not_text word cs b k h)
one_input (text cs) (text ds) word h k = ap text (literal_once word cs ds h k)
one_input (symbol n) w word h k = absurd h
one_input (kind n) w word h k = absurd h
one_input (procedure n) w word h k = absurd h
one_input (list n) w word h k = absurd h
one_input v (symbol n) word h k = absurd k
one_input v (kind n) word h k = absurd k
one_input v (procedure n) word h k = absurd k
one_input v (list n) word h k = absurd k

-- ---- lists of values

-- the last value has no comma behind it
no_more : (v w : PureValue) (rest first more : List ℕ) → SpellsInput rest v → rest ≡ first ++ comma ∷ more → SpellsInput first w → ⊥
no_more v w rest first more last is before =
    let whole : piece_len Outside rest ≡ length rest = last_piece v rest last in
    let part : piece_len Outside rest ≡ length first = ap (piece_len Outside) is ∙ first_piece w first more before in
    let counted = ap length is ∙ length-append first (comma ∷ more) in
    omega (arith, whole, part, counted)

one_list : (v w : PureValue) (vs ws : List PureValue) (rest : List ℕ) → SpellsSome rest v vs → SpellsSome rest w ws → v ∷ vs ≡ w ∷ ws
one_list v w [] [] rest some other = ap (λ x. x ∷ []) (one_input v w rest some other)
one_list v w [] (y ∷ ys) rest some other = absurd (no_more v w rest other.0 other.1 some other.2 other.3)
one_list v w (x ∷ xs) [] rest some other = absurd (no_more w v rest some.0 some.1 other some.2 some.3)
one_list v w (x ∷ xs) (y ∷ ys) rest some other =
    let first = one_input v w _ (first_spelled rest v (x ∷ xs) some) (first_spelled rest w (y ∷ ys) other) in
    let more = one_list x y xs ys _ (more_spelled rest v x xs some) (more_spelled rest w y ys other) in
    ap₂ (λ a b. a ∷ b) first more

-- the empty word spells no value
not_empty : (v : PureValue) (word : List ℕ) → word ≡ [] → SpellsInput word v → ⊥
not_empty (integer z) word none h = let digits = subst (λ w. IsNumeral 10 (without_leading_sign w)) none h.digits in omega (arith, digits.0)
not_empty (boolean true) word none h = let e = sym none ∙ h in cc
not_empty (boolean false) word none h = let e = sym none ∙ h in cc
not_empty (text cs) word none h = let e = sym none ∙ h.1 in cc
not_empty (symbol n) word none h = absurd h
not_empty (kind n) word none h = absurd h
not_empty (procedure n) word none h = absurd h
not_empty (list n) word none h = absurd h

none_not_empty : (v : PureValue) (vs : List PureValue) (word : List ℕ) → word ≡ [] → SpellsSome word v vs → ⊥
none_not_empty v [] word none some = not_empty v word none some
none_not_empty v (w ∷ ws) word none some =
    let counted = ap length (sym none ∙ some.2) ∙ length-append some.0 (comma ∷ some.1) in omega (arith, counted)

one_inputs : (word : List ℕ) (vs ws : List PureValue) → SpellsInputs word vs → SpellsInputs word ws → vs ≡ ws
one_inputs word [] [] h k = refl
one_inputs word [] (w ∷ ws) h k = absurd (none_not_empty w ws word h k)
one_inputs word (v ∷ vs) [] h k = absurd (none_not_empty v vs word k h)
one_inputs word (v ∷ vs) (w ∷ ws) h k = one_list v w vs ws word h k

-- ---- options, languages and tasks

one_option : {X : Type 0} (spells : List ℕ → X → Type 0) (default : X) (given : Option (List ℕ)) (x y : X)
    → ((word : List ℕ) (x y : X) → spells word x → spells word y → x ≡ y)
    → IsOption spells default given x → IsOption spells default given y → x ≡ y
one_option spells default (Some word) x y once h k = once word x y h k
one_option spells default None x y once h k = h ∙ sym k

one_bound : (word : List ℕ) (m n : ℕ) → SpellsBound word m → SpellsBound word n → m ≡ n
one_bound word m n h k = h.2 ∙ sym k.2

one_size : (given : Option (List ℕ)) (m n : ℕ) → IsGiven SpellsSize given m → IsGiven SpellsSize given n → m ≡ n
one_size (Some word) m n h k = h.2 ∙ sym k.2
one_size None m n h k = absurd h

one_entry : (word e f : List ℕ) → SpellsEntry word e → SpellsEntry word f → e ≡ f
one_entry word e f h k = h.1 ∙ sym k.1

one_language : (l m : Language) → language_word l ≡ language_word m → l ≡ m
one_language GilRecord GilRecord e = refl
one_language GilRecord GilBlock e = cc
one_language GilRecord GilObject e = absurd (let fifth : 114 ≡ 111 = ap (λ bytes. get_or bytes 4 0) e in omega arith)
one_language GilRecord While e = cc
one_language GilRecord Clike e = cc
one_language GilRecord Object e = cc
one_language GilBlock GilRecord e = cc
one_language GilBlock GilBlock e = refl
one_language GilBlock GilObject e = cc
one_language GilBlock While e = cc
one_language GilBlock Clike e = cc
one_language GilBlock Object e = cc
one_language GilObject GilRecord e = absurd (let fifth : 111 ≡ 114 = ap (λ bytes. get_or bytes 4 0) e in omega arith)
one_language GilObject GilBlock e = cc
one_language GilObject GilObject e = refl
one_language GilObject While e = cc
one_language GilObject Clike e = cc
one_language GilObject Object e = cc
one_language While GilRecord e = cc
one_language While GilBlock e = cc
one_language While GilObject e = cc
one_language While While e = refl
one_language While Clike e = absurd (let first : 119 ≡ 99 = ap (λ bytes. get_or bytes 0 0) e in omega arith)
one_language While Object e = cc
one_language Clike GilRecord e = cc
one_language Clike GilBlock e = cc
one_language Clike GilObject e = cc
one_language Clike While e = absurd (let first : 99 ≡ 119 = ap (λ bytes. get_or bytes 0 0) e in omega arith)
one_language Clike Clike e = refl
one_language Clike Object e = cc
one_language Object GilRecord e = cc
one_language Object GilBlock e = cc
one_language Object GilObject e = cc
one_language Object While e = cc
one_language Object Clike e = cc
one_language Object Object e = refl

same_word : (given : Option (List ℕ)) (word other : List ℕ) → given ≡ Some word → given ≡ Some other → word ≡ other
same_word given word other e f = cc

same_run : (l l' : Language) (e e' : List ℕ) (n n' : ℕ) (vs vs' : List PureValue) → l ≡ l' → e ≡ e' → n ≡ n' → vs ≡ vs' → run l e n vs ≡ run l' e' n' vs'
same_run l l' e e' n n' vs vs' p q r s =
    ap (λ x. run x e n vs) p ∙ ap (λ x. run l' x n vs) q ∙ ap (λ x. run l' e' x vs) r ∙ ap (λ x. run l' e' n' x) s

same_test : (l l' : Language) (e e' : List ℕ) (n n' : ℕ) → l ≡ l' → e ≡ e' → n ≡ n' → test l e n ≡ test l' e' n'
same_test l l' e e' n n' p q r = ap (λ x. test x e n) p ∙ ap (λ x. test l' x n) q ∙ ap (λ x. test l' e' x) r

same_infer : (l l' : Language) (e e' : List ℕ) (n n' : ℕ) → l ≡ l' → e ≡ e' → n ≡ n' → infer l e n ≡ infer l' e' n'
same_infer l l' e e' n n' p q r = ap (λ x. infer x e n) p ∙ ap (λ x. infer l' x n) q ∙ ap (λ x. infer l' e' x) r

same_check : (l l' : Language) (n n' : ℕ) → l ≡ l' → n ≡ n' → check l n ≡ check l' n'
same_check l l' n n' p q = ap (λ x. check x n) p ∙ ap (λ x. check l' x) q

-- what is given asks for one mode
one_mode : (g : Given) (a b : PureTask) → AsksTask g a → AsksTask g b → mode_word a ≡ mode_word b
one_mode g a b h k = same_word g.mode (mode_word a) (mode_word b) h.mode k.mode

same_language : (g : Given) (l m : Language) → g.second ≡ Some (language_word l) → g.second ≡ Some (language_word m) → l ≡ m
same_language g l m h k = one_language l m (same_word g.second _ _ h k)

asks_once : (g : Given) (a b : PureTask) → AsksTask g a → AsksTask g b → a ≡ b
asks_once g (run l e n vs) (run l' e' n' vs') h k =
    same_run l l' e e' n n' vs vs' (same_language g l l' h.second k.second)
    (one_option SpellsEntry (codes "main") g.entry e e' one_entry h.options.0 k.options.0)
    (one_option SpellsBound 1000 g.bound n n' one_bound h.options.1 k.options.1)
    (one_option SpellsInputs [] g.inputs vs vs' one_inputs h.options.2 k.options.2)
asks_once g (test l e n) (test l' e' n') h k =
    same_test l l' e e' n n' (same_language g l l' h.second k.second)
    (one_option SpellsEntry (codes "main") g.entry e e' one_entry h.options.0 k.options.0)
    (one_option SpellsBound 1000 g.bound n n' one_bound h.options.1 k.options.1)
asks_once g (check l n) (check l' n') h k =
    same_check l l' n n' (same_language g l l' h.second k.second) (one_option SpellsBound 1000 g.bound n n' one_bound h.options.1 k.options.1)
asks_once g (infer l e n) (infer l' e' n') h k =
    same_infer l l' e e' n n' (same_language g l l' h.second k.second)
    (one_option SpellsEntry (codes "main") g.entry e e' one_entry h.options.0 k.options.0)
    (one_option SpellsBound 1000 g.bound n n' one_bound h.options.1 k.options.1)
asks_once g (compile l) (compile l') h k = ap compile (same_language g l l' h.second k.second)
asks_once g solve solve h k = refl
asks_once g (run l e n vs) (test l' e' n') h k = let is = one_mode g _ _ h k in cc
asks_once g (run l e n vs) (compile l') h k = let is = one_mode g _ _ h k in cc
asks_once g (run l e n vs) solve h k = let is = one_mode g _ _ h k in cc
asks_once g (test l e n) (run l' e' n' vs') h k = let is = one_mode g _ _ h k in cc
asks_once g (test l e n) (compile l') h k = let is = one_mode g _ _ h k in cc
asks_once g (test l e n) solve h k = let is = one_mode g _ _ h k in cc
asks_once g (run l e n vs) (check l' n') h k = let is = one_mode g _ _ h k in cc
asks_once g (test l e n) (check l' n') h k = let is = one_mode g _ _ h k in cc
asks_once g (check l n) (run l' e' n' vs') h k = let is = one_mode g _ _ h k in cc
asks_once g (check l n) (test l' e' n') h k = let is = one_mode g _ _ h k in cc
asks_once g (check l n) (compile l') h k =
    let is = one_mode g (check l n) (compile l') h k in absurd (let second : 104 ≡ 111 = ap (λ bytes. get_or bytes 1 0) is in omega arith)
asks_once g (check l n) solve h k =
    let is = one_mode g (check l n) solve h k in absurd (let first : 99 ≡ 115 = ap (λ bytes. get_or bytes 0 0) is in omega arith)
asks_once g (compile l) (check l' n') h k =
    let is = one_mode g (compile l) (check l' n') h k in absurd (let second : 111 ≡ 104 = ap (λ bytes. get_or bytes 1 0) is in omega arith)
asks_once g solve (check l' n') h k =
    let is = one_mode g solve (check l' n') h k in absurd (let first : 115 ≡ 99 = ap (λ bytes. get_or bytes 0 0) is in omega arith)
asks_once g (compile l) (run l' e' n' vs') h k = let is = one_mode g _ _ h k in cc
asks_once g (compile l) (test l' e' n') h k = let is = one_mode g _ _ h k in cc
asks_once g (compile l) solve h k = let is = one_mode g _ _ h k in cc
asks_once g solve (run l' e' n' vs') h k = let is = one_mode g _ _ h k in cc
asks_once g solve (test l' e' n') h k = let is = one_mode g _ _ h k in cc
asks_once g solve (compile l') h k = let is = one_mode g _ _ h k in cc
asks_once g (run l e n vs) (infer l' e' n') h k =
    let is = one_mode g (run l e n vs) (infer l' e' n') h k in absurd (let first : 114 ≡ 105 = ap (λ bytes. get_or bytes 0 0) is in omega arith)
asks_once g (infer l e n) (run l' e' n' vs') h k =
    let is = one_mode g (infer l e n) (run l' e' n' vs') h k in absurd (let first : 105 ≡ 114 = ap (λ bytes. get_or bytes 0 0) is in omega arith)
asks_once g (test l e n) (infer l' e' n') h k =
    let is = one_mode g (test l e n) (infer l' e' n') h k in absurd (let first : 116 ≡ 105 = ap (λ bytes. get_or bytes 0 0) is in omega arith)
asks_once g (infer l e n) (test l' e' n') h k =
    let is = one_mode g (infer l e n) (test l' e' n') h k in absurd (let first : 105 ≡ 116 = ap (λ bytes. get_or bytes 0 0) is in omega arith)
asks_once g (check l n) (infer l' e' n') h k =
    let is = one_mode g (check l n) (infer l' e' n') h k in absurd (let first : 99 ≡ 105 = ap (λ bytes. get_or bytes 0 0) is in omega arith)
asks_once g (infer l e n) (check l' n') h k =
    let is = one_mode g (infer l e n) (check l' n') h k in absurd (let first : 105 ≡ 99 = ap (λ bytes. get_or bytes 0 0) is in omega arith)
asks_once g (compile l) (infer l' e' n') h k =
    let is = one_mode g (compile l) (infer l' e' n') h k in absurd (let first : 99 ≡ 105 = ap (λ bytes. get_or bytes 0 0) is in omega arith)
asks_once g (infer l e n) (compile l') h k =
    let is = one_mode g (infer l e n) (compile l') h k in absurd (let first : 105 ≡ 99 = ap (λ bytes. get_or bytes 0 0) is in omega arith)
asks_once g solve (infer l' e' n') h k =
    let is = one_mode g solve (infer l' e' n') h k in absurd (let first : 115 ≡ 105 = ap (λ bytes. get_or bytes 0 0) is in omega arith)
asks_once g (infer l e n) solve h k =
    let is = one_mode g (infer l e n) solve h k in absurd (let first : 105 ≡ 115 = ap (λ bytes. get_or bytes 0 0) is in omega arith)
asks_once g (sweep m) (sweep n) h k = ap sweep (one_size g.second m n h.second k.second)
asks_once g (sweep m) (run l' e' n' vs') h k = let is = one_mode g _ _ h k in cc
asks_once g (sweep m) (test l' e' n') h k = let is = one_mode g _ _ h k in cc
asks_once g (sweep m) (compile l') h k = let is = one_mode g _ _ h k in cc
asks_once g (run l e n vs) (sweep m) h k = let is = one_mode g _ _ h k in cc
asks_once g (test l e n) (sweep m) h k = let is = one_mode g _ _ h k in cc
asks_once g (compile l) (sweep m) h k = let is = one_mode g _ _ h k in cc
asks_once g (sweep m) (check l' n') h k =
    let is = one_mode g (sweep m) (check l' n') h k in absurd (let first : 115 ≡ 99 = ap (λ bytes. get_or bytes 0 0) is in omega arith)
asks_once g (check l n) (sweep m) h k =
    let is = one_mode g (check l n) (sweep m) h k in absurd (let first : 99 ≡ 115 = ap (λ bytes. get_or bytes 0 0) is in omega arith)
asks_once g (sweep m) (infer l' e' n') h k =
    let is = one_mode g (sweep m) (infer l' e' n') h k in absurd (let first : 115 ≡ 105 = ap (λ bytes. get_or bytes 0 0) is in omega arith)
asks_once g (infer l e n) (sweep m) h k =
    let is = one_mode g (infer l e n) (sweep m) h k in absurd (let first : 105 ≡ 115 = ap (λ bytes. get_or bytes 0 0) is in omega arith)
asks_once g (sweep m) solve h k =
    let is = one_mode g (sweep m) solve h k in absurd (let second : 119 ≡ 111 = ap (λ bytes. get_or bytes 1 0) is in omega arith)
asks_once g solve (sweep m) h k =
    let is = one_mode g solve (sweep m) h k in absurd (let second : 111 ≡ 119 = ap (λ bytes. get_or bytes 1 0) is in omega arith)

abbrev request_of : PureTask → Bool → PureRequest
request_of task json = record { task = task; json = json }

requested_once : (g : Given) (a b : PureRequest) → Asks g a → Asks g b → a ≡ b
requested_once g a b h k = ap₂ request_of (asks_once g a.task b.task h.task k.task) (h.json ∙ sym k.json)

pub asked_once : (words : List (List ℕ)) (a b : PureRequest) → AskFor words a → AskFor words b → a ≡ b
asked_once words a b for other = requested_once _ a b for.asks other.asks
