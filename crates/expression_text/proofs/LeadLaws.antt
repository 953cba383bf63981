-- Reserved words at the front of expressions.
use Rattle.std.proofs.Common.{◌≡◌, ◌≢◌, ℕ, List, Option, Some, None, refl, sym, ap, ◌∙◌}
use Rattle.std.specs.Prelude.{IfSome, IfNone, codes}
use Rattle.std.proofs.lemmas.Option.{same_Some}
use Rattle.gil_values.specs.declared.kinds.Kind.{Kind}
use Rattle.gil_values.specs.declared.kinds.Kind.TheVariants as kinds
use Rattle.gil_values.specs.declared.operators.UnOp.{UnOp}
use Rattle.gil_values.specs.declared.operators.UnOp.TheVariants as unary
use Rattle.gil_values.specs.Printed.{kind_name}
use Rattle.gil_lexer.specs.Reading.{word_of}
use Rattle.gil_lexer.specs.Spelling.{IsName}
use Rattle.gil_lexer.specs.Words.{word_bytes}
use Rattle.gil_lexer.specs.declared.words.Word.{Word}
use Rattle.gil_lexer.specs.declared.words.Word.TheVariants as words
use Rattle.gil_lexer.proofs.WordLemmas.{word_of_some, word_of_none, word_of-spelling, word_is_name}
use Rattle.syntax_print.specs.Expressions.{unary_name}
use Rattle.expression_text.specs.declared.leads.Lead.{Lead}
use Rattle.expression_text.specs.declared.leads.Lead.TheVariants as leads
use Rattle.expression_text.specs.Reading.{lead_of_word, lead_of}
use Rattle.expression_text.specs.Writable.{IsVariable}

no_word : (text : List ℕ) (found : Option Word) → word_of text ≡ found → ((word : Word) → word_bytes word ≢ text) → None ≡ found
no_word text None e free = refl
no_word text (Some word) e free = absurd (free word (word_of_some text word e))

-- the word that was found is the one
pub word_is : (text : List ℕ) (r : Option Word) → IfSome r (λ word. word_bytes word ≡ text) → IfNone r ((word : Word) → word_bytes word ≢ text) → r ≡ word_of text
word_is text None some none = no_word text (word_of text) refl none
word_is text (Some word) some none = sym (word_of-spelling word) ∙ ap word_of some

-- ---- variables

variable_found : (x : List ℕ) (found : Option Word) → word_of x ≡ found → IsVariable x → lead_of found ≡ leads.Variable
variable_found x None e is = refl
variable_found x (Some word) e is = ap lead_of_word (is.1 word (word_of_some x word e))

pub variable_leads : (x : List ℕ) → IsVariable x → lead_of (word_of x) ≡ leads.Variable
variable_leads x is = variable_found x (word_of x) refl is

only_ret : (word : Word) → lead_of_word word ≡ leads.Variable → word ≡ words.Ret
only_ret words.Ret e = refl
only_ret _ e = absurd (cc e)

ret_found : (x : List ℕ) (found : Option Word) → word_of x ≡ found → lead_of found ≡ leads.Variable → (word : Word) → word_bytes word ≡ x → word ≡ words.Ret
ret_found x None e leads word is = absurd (word_of_none x e word is)
ret_found x (Some found) e leads word is =
    let one : Some found ≡ Some word = sym e ∙ (ap word_of (sym is) ∙ word_of-spelling word) in
    sym (same_Some found word one) ∙ only_ret found leads

-- a name that leads as a variable does is one
pub leads_variable : (x : List ℕ) → IsName x → lead_of (word_of x) ≡ leads.Variable → IsVariable x
leads_variable x is e = (is, ret_found x (word_of x) refl e)

-- ---- operators and literals

-- a word whose bytes are these
pub record Leads (text : List ℕ) (lead : Lead) : Type 0 where
  pub is_name : IsName text
  pub leads : lead_of (word_of text) ≡ lead

by_word : (word : Word) (text : List ℕ) → word_bytes word ≡ text → Leads text (lead_of_word word)
by_word word text is = rw (← is) (record { is_name = word_is_name word; leads = ap lead_of (word_of-spelling word) })

pub unary_leads : (op : UnOp) → Leads (unary_name op) (leads.Unary op)
unfolding word_bytes
unary_leads unary.Not = by_word words.Not (codes "not") refl
unary_leads unary.Neg = by_word words.Neg (codes "neg") refl
unary_leads unary.Len = by_word words.Len (codes "len") refl
unary_leads unary.Kind = by_word words.Kind (codes "kind") refl

pub nth_leads : Leads (codes "nth") leads.Nth
unfolding word_bytes
nth_leads = by_word words.Nth (codes "nth") refl

pub true_leads : Leads (codes "true") (lead_of_word words.True)
unfolding word_bytes
true_leads = by_word words.True (codes "true") refl

pub false_leads : Leads (codes "false") (lead_of_word words.False)
unfolding word_bytes
false_leads = by_word words.False (codes "false") refl

pub kind_leads : (k : Kind) → Leads (kind_name k) (leads.Kind k)
unfolding word_bytes
kind_leads kinds.Int = by_word words.IntKind (codes "Int") refl
kind_leads kinds.Bool = by_word words.BoolKind (codes "Bool") refl
kind_leads kinds.Str = by_word words.StrKind (codes "Str") refl
kind_leads kinds.Sym = by_word words.SymKind (codes "Sym") refl
kind_leads kinds.Kind = by_word words.KindKind (codes "Kind") refl
kind_leads kinds.Proc = by_word words.ProcKind (codes "Proc") refl
kind_leads kinds.List = by_word words.ListKind (codes "List") refl
kind_leads kinds.Undef = by_word words.UndefKind (codes "Undef") refl
kind_leads kinds.Null = by_word words.NullKind (codes "Null") refl
