-- The printed text of a program that has a text spells it.
use Rattle.std.proofs.Common.{◌≡◌, ℕ, ◌+◌, List, [], ◌∷◌, ◌++◌, map, length, Option, Some, None, refl, sym, ap, ◌∙◌, subst, inl, append-nil}
use Rattle.std.specs.List.{flat_map, filter_map, cons_option, AllByRecursion}
use Rattle.std.proofs.lemmas.List.Concat.{flat_map-append}
use Rattle.std.proofs.lemmas.List.Elements.{filter_map-append}
use Rattle.std.proofs.lemmas.List.Folds.{flat_map-map}
use Rattle.gil_lexer.specs.declared.forms.Form.{Form}
use Rattle.gil_lexer.specs.declared.forms.Token.{Token}
use Rattle.gil_lexer.specs.Texts.{start}
use Rattle.gil_lexer.proofs.TextLaws.{follows_start}
use Rattle.gil_lexemes.specs.declared.standing.Lexeme.{Lexeme}
use Rattle.gil_syntax.specs.Pure.{PureNumberedCommand, PureProc, PureSpec, PurePredDef, PureParts}
use Rattle.gil_syntax.specs.Programs.{numbered_from, renumbered_proc, renumbered}
use Rattle.gil_syntax.specs.Valid.{ProgramItem, a_proc, a_spec, a_pred, items_of}
use Rattle.gil_grammar.specs.Lists.{SpellsEach}
use Rattle.gil_grammar.specs.Programs.{commands_of, SpellsProgramItem}
use Rattle.gil_grammar.specs.Texts.{PlacedItem, SpellsItems, BeginsWithProc, as_proc, as_spec, as_pred, byte_before, parts_of, SpellProgram}
use Rattle.gil_grammar.proofs.TextLaws.{one_program}
use Rattle.syntax_print.specs.Programs.{printed_statement, printed_proc, printed_spec, printed_pred, printed_program}
use Rattle.gil_print.specs.Writable.{IsWritable, PrintedAgain, PrintedTextsSpell, PrintingTellsPrograms}
use Rattle.gil_print.proofs.Lexing.{Written, Lexes, Anywhere, no_blanks, written, tokenized}
use Rattle.gil_print.proofs.Programs.{text_of, item_prints}

-- ---- items one by one

-- The item's text, and bytes that read as lexemes behind it, read as lexemes of the item and those.
abbrev Reread : ProgramItem → Type 0
Reread item = (bytes : List ℕ) (ls : List Lexeme) → Anywhere 0 bytes ls → (from : List Lexeme) × SpellsProgramItem item from ls × Anywhere 0 (text_of item ++ bytes) from

items_reread : (tokens : List Token) (items : List PlacedItem) (from : List Lexeme) (b : Option Form) → SpellsItems tokens items from → Written b 0 from
    → AllByRecursion (λ (i : PlacedItem). Reread i.item) items
items_reread tokens [] from b h w = tt
items_reread tokens (i ∷ items) from b (after, one, at, more) w =
    let x = item_prints i.item from after b 0 one w in
    (x.again, items_reread tokens items after x.before more x.behind)

-- ---- the items of each kind

proc_and : (item : ProgramItem) (rest : List PureProc) → Reread item → AllByRecursion (λ q. Reread (a_proc q)) rest → AllByRecursion (λ q. Reread (a_proc q)) (cons_option (as_proc item) rest)
proc_and (a_proc q) rest h others = (h, others)
proc_and (a_spec s) rest h others = others
proc_and (a_pred d) rest h others = others

spec_and : (item : ProgramItem) (rest : List PureSpec) → Reread item → AllByRecursion (λ s. Reread (a_spec s)) rest → AllByRecursion (λ s. Reread (a_spec s)) (cons_option (as_spec item) rest)
spec_and (a_proc q) rest h others = others
spec_and (a_spec s) rest h others = (h, others)
spec_and (a_pred d) rest h others = others

pred_and : (item : ProgramItem) (rest : List PurePredDef) → Reread item → AllByRecursion (λ d. Reread (a_pred d)) rest → AllByRecursion (λ d. Reread (a_pred d)) (cons_option (as_pred item) rest)
pred_and (a_proc q) rest h others = others
pred_and (a_spec s) rest h others = others
pred_and (a_pred d) rest h others = (h, others)

procs_reread : (items : List PlacedItem) → AllByRecursion (λ (i : PlacedItem). Reread i.item) items → AllByRecursion (λ q. Reread (a_proc q)) (filter_map (λ (i : PlacedItem). as_proc i.item) items)
procs_reread [] h = tt
procs_reread (i ∷ items) h = proc_and i.item (filter_map (λ (j : PlacedItem). as_proc j.item) items) h.0 (procs_reread items h.1)

specs_reread : (items : List PlacedItem) → AllByRecursion (λ (i : PlacedItem). Reread i.item) items → AllByRecursion (λ s. Reread (a_spec s)) (filter_map (λ (i : PlacedItem). as_spec i.item) items)
specs_reread [] h = tt
specs_reread (i ∷ items) h = spec_and i.item (filter_map (λ (j : PlacedItem). as_spec j.item) items) h.0 (specs_reread items h.1)

preds_reread : (items : List PlacedItem) → AllByRecursion (λ (i : PlacedItem). Reread i.item) items → AllByRecursion (λ d. Reread (a_pred d)) (filter_map (λ (i : PlacedItem). as_pred i.item) items)
preds_reread [] h = tt
preds_reread (i ∷ items) h = pred_and i.item (filter_map (λ (j : PlacedItem). as_pred j.item) items) h.0 (preds_reread items h.1)

all_map : {X : Type 0} (P : ProgramItem → Type 0) (f : X → ProgramItem) (xs : List X) → AllByRecursion (λ x. P (f x)) xs → AllByRecursion P (map f xs)
all_map P f [] h = tt
all_map P f (x ∷ xs) h = (h.0, all_map P f xs h.1)

all_append : (P : ProgramItem → Type 0) (xs ys : List ProgramItem) → AllByRecursion P xs → AllByRecursion P ys → AllByRecursion P (xs ++ ys)
all_append P [] ys h k = k
all_append P (x ∷ xs) ys h k = (h.0, all_append P xs ys h.1 k)

-- ---- a text of all items

-- the items, one after another, are spelled by the lexemes that their texts read as
all_read : (items : List ProgramItem) → AllByRecursion Reread items → (from : List Lexeme) × SpellsEach SpellsProgramItem items from [] × Anywhere 0 (flat_map text_of items) from
all_read [] h = ([], refl, λ b. inl no_blanks)
all_read (item ∷ items) h =
    let others = all_read items h.1 in
    let one = h.0 (flat_map text_of items) others.0 others.2 in
    (one.0, (others.0, one.1, others.1), one.2)

-- items with the bytes at which their tokens begin
placed : (tokens : List Token) (items : List ProgramItem) (from : List Lexeme) → SpellsEach SpellsProgramItem items from []
    → (placed : List PlacedItem) × SpellsItems tokens placed from × (map (λ (i : PlacedItem). i.item) placed ≡ items)
placed tokens [] from h = ([], h, refl)
placed tokens (item ∷ items) from (after, one, more) =
    let others = placed tokens items after more in
    (record { item = item; at = byte_before tokens (length from) } ∷ others.0, (after, one, refl, others.1), ap (λ rest. item ∷ rest) others.2)

filter_items : {X : Type 0} (f : ProgramItem → Option X) (items : List PlacedItem) → filter_map (λ (i : PlacedItem). f i.item) items ≡ filter_map f (map (λ (i : PlacedItem). i.item) items)
filter_items f [] = refl
filter_items f (i ∷ items) = ap (cons_option (f i.item)) (filter_items f items)

keeps : {X Y : Type 0} (f : ProgramItem → Option Y) (g : X → ProgramItem) (h : X → Y) (xs : List X) → ((x : X) → f (g x) ≡ Some (h x)) → filter_map f (map g xs) ≡ map h xs
keeps f g h [] is = refl
keeps f g h (x ∷ xs) is = rw (is x) (ap (λ rest. h x ∷ rest) (keeps f g h xs is))

drops : {X Y : Type 0} (f : ProgramItem → Option Y) (g : X → ProgramItem) (xs : List X) → ((x : X) → f (g x) ≡ None) → filter_map f (map g xs) ≡ []
drops f g [] is = refl
drops f g (x ∷ xs) is = rw (is x) (drops f g xs is)

map_same : {X : Type 0} (xs : List X) → map (λ x. x) xs ≡ xs
map_same [] = refl
map_same (x ∷ xs) = ap (λ rest. x ∷ rest) (map_same xs)

-- what is kept of the items of a program, of which there are three lists
three_lists : {Y : Type 0} (f : ProgramItem → Option Y) (p : PureParts) (a b c all : List Y) → filter_map f (map a_proc p.procs) ≡ a → filter_map f (map a_spec p.specs) ≡ b → filter_map f (map a_pred p.preds) ≡ c
    → (a ++ b) ++ c ≡ all → filter_map f (items_of p) ≡ all
three_lists f p a b c all first second third is =
    filter_map-append f (map a_proc p.procs ++ map a_spec p.specs) (map a_pred p.preds)
    ∙ ap (λ xs. xs ++ filter_map f (map a_pred p.preds)) (filter_map-append f (map a_proc p.procs) (map a_spec p.specs))
    ∙ (λ i. (first i ++ second i) ++ third i) ∙ is

procs_of_items : (p : PureParts) → filter_map as_proc (items_of p) ≡ p.procs
procs_of_items p =
    three_lists as_proc p p.procs [] [] p.procs (keeps as_proc a_proc (λ q. q) p.procs (λ q. refl) ∙ map_same p.procs) (drops as_proc a_spec p.specs (λ s. refl)) (drops as_proc a_pred p.preds (λ d. refl))
    (append-nil (p.procs ++ []) ∙ append-nil p.procs)

specs_of_items : (p : PureParts) → filter_map as_spec (items_of p) ≡ p.specs
specs_of_items p =
    three_lists as_spec p [] p.specs [] p.specs (drops as_spec a_proc p.procs (λ q. refl)) (keeps as_spec a_spec (λ s. s) p.specs (λ s. refl) ∙ map_same p.specs) (drops as_spec a_pred p.preds (λ d. refl))
    (append-nil p.specs)

preds_of_items : (p : PureParts) → filter_map as_pred (items_of p) ≡ p.preds
preds_of_items p =
    three_lists as_pred p [] [] p.preds p.preds (drops as_pred a_proc p.procs (λ q. refl)) (drops as_pred a_spec p.specs (λ s. refl)) (keeps as_pred a_pred (λ d. d) p.preds (λ d. refl) ∙ map_same p.preds)
    refl

parts_of_items : (p : PureParts) (items : List PlacedItem) → map (λ (i : PlacedItem). i.item) items ≡ items_of p → parts_of items ≡ p
parts_of_items p items is =
    let procs = filter_items as_proc items ∙ ap (filter_map as_proc) is ∙ procs_of_items p in
    let specs = filter_items as_spec items ∙ ap (filter_map as_spec) is ∙ specs_of_items p in
    let preds = filter_items as_pred items ∙ ap (filter_map as_pred) is ∙ preds_of_items p in
    λ i. record { procs = procs i; specs = specs i; preds = preds i }

text_of_items : (p : PureParts) → flat_map text_of (items_of p) ≡ printed_program p
text_of_items p =
    flat_map-append text_of (map a_proc p.procs ++ map a_spec p.specs) (map a_pred p.preds)
    ∙ ap (λ text. text ++ flat_map text_of (map a_pred p.preds)) (flat_map-append text_of (map a_proc p.procs) (map a_spec p.specs))
    ∙ (λ i. (flat_map-map text_of a_proc p.procs i ++ flat_map-map text_of a_spec p.specs i) ++ flat_map-map text_of a_pred p.preds i)

-- ---- a procedure comes first

first_proc : (items : List PlacedItem) (p : PureParts) → BeginsWithProc items → parts_of items ≡ p → (q : PureProc) × ((qs : List PureProc) × (p.procs ≡ q ∷ qs))
first_proc [] p h is = absurd h
first_proc (i ∷ items) p (q, is_proc) is =
    let others = filter_map (λ (j : PlacedItem). as_proc j.item) items in
    (q, (others, sym (ap (λ (r : PureParts). r.procs) is) ∙ ap (λ item. cons_option (as_proc item) others) is_proc))

begins : (p : PureParts) (q : PureProc) (qs : List PureProc) (items : List PlacedItem) → p.procs ≡ q ∷ qs → map (λ (i : PlacedItem). i.item) items ≡ items_of p → BeginsWithProc items
begins p q qs items procs is = go items (is ∙ ap (λ rs. map a_proc rs ++ map a_spec p.specs ++ map a_pred p.preds) procs)
  where
    go : (items : List PlacedItem) → map (λ (i : PlacedItem). i.item) items ≡ a_proc q ∷ (map a_proc qs ++ map a_spec p.specs) ++ map a_pred p.preds → BeginsWithProc items
    go [] e = absurd cc
    go (i ∷ items) e = (q, cc)

-- ---- programs

-- a program that some text spells is spelled by its printed text
pub printed_again : PrintedAgain
printed_again bytes p (items, s, is) =
    let reread = items_reread s.tokens items s.lexemes None s.spelled (written bytes s.tokens s.lexemes s.text s.stand s.nested) in
    let procs = subst (λ (r : PureParts). AllByRecursion (λ q. Reread (a_proc q)) r.procs) is (procs_reread items reread) in
    let specs = subst (λ (r : PureParts). AllByRecursion (λ x. Reread (a_spec x)) r.specs) is (specs_reread items reread) in
    let preds = subst (λ (r : PureParts). AllByRecursion (λ d. Reread (a_pred d)) r.preds) is (preds_reread items reread) in
    let all = all_append Reread (map a_proc p.procs ++ map a_spec p.specs) (map a_pred p.preds)
    (all_append Reread (map a_proc p.procs) (map a_spec p.specs) (all_map Reread a_proc p.procs procs) (all_map Reread a_spec p.specs specs))
    (all_map Reread a_pred p.preds preds) in
    let read = all_read (items_of p) all in
    let text = printed_program p in
    let lexes : Lexes None 0 text read.0 = subst (λ t. Lexes None 0 t read.0) (text_of_items p) (read.2 None) in
    let tokens = tokenized text (start text) 0 read.0 (follows_start text) lexes in
    let found = placed tokens.tokens (items_of p) read.0 read.1 in
    let first = first_proc items p s.first is in (
      found.0,
      record {
        tokens = tokens.tokens;
        lexemes = read.0;
        text = (tokens.end, tokens.lead, tokens.last);
        stand = tokens.stand;
        nested = tokens.nested;
        spelled = found.1;
        first = begins p first.0 first.1.0 found.0 first.1.1 found.2;
      },
      parts_of_items p found.0 found.2,
    )

-- the numbers of commands are not printed
printed-numbered_from : (n : ℕ) (cs : List PureNumberedCommand) → flat_map printed_statement (numbered_from n (commands_of cs)) ≡ flat_map printed_statement cs
printed-numbered_from n [] = refl
printed-numbered_from n (c ∷ cs) = ap (λ rest. printed_statement c ++ rest) (printed-numbered_from (n + 1) cs)

printed-renumbered_proc : (q : PureProc) → printed_proc (renumbered_proc q) ≡ printed_proc q
printed-renumbered_proc q = rw (printed-numbered_from 0 q.body) refl

printed-renumbered_procs : (qs : List PureProc) → flat_map printed_proc (map renumbered_proc qs) ≡ flat_map printed_proc qs
printed-renumbered_procs [] = refl
printed-renumbered_procs (q ∷ qs) = (λ i. printed-renumbered_proc q i ++ printed-renumbered_procs qs i)

printed-renumbered : (p : PureParts) → printed_program (renumbered p) ≡ printed_program p
printed-renumbered p = ap (λ text. text ++ flat_map printed_spec p.specs ++ flat_map printed_pred p.preds) (printed-renumbered_procs p.procs)

pub printed_texts_spell : PrintedTextsSpell
printed_texts_spell p (bytes, h) = subst (λ text. SpellProgram text (renumbered p)) (printed-renumbered p) (printed_again bytes (renumbered p) h)

-- the same of bytes that are the printed text
pub printed_spells : (p : PureParts) (bytes : List ℕ) → bytes ≡ printed_program p → IsWritable p → SpellProgram bytes (renumbered p)
printed_spells p bytes is h = subst (λ text. SpellProgram text (renumbered p)) (sym is) (printed_texts_spell p h)

pub printing_tells_programs : PrintingTellsPrograms
printing_tells_programs p q h k same =
    one_program (printed_program q) (renumbered p) (renumbered q) (subst (λ text. SpellProgram text (renumbered p)) same (printed_texts_spell p h)) (printed_texts_spell q k)
