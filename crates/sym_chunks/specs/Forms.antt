-- Terms whose literal form is needed.
use Rattle.pure_terms.specs.Pure.{PureTerm, literal, list_of}
use Rattle.sym_model.specs.Alternatives.{Alternatives, never, with_form}

-- besides, the literal form of the term is needed, which is no list term and no literal
abbrev pub form_of : PureTerm → Alternatives → Alternatives
form_of (list_of ds) x = never
form_of (literal k) x = never
form_of t x = with_form t x
