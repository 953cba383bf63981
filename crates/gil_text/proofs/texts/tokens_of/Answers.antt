use Rattle.gil_text.proofs.RefusalLemmas.{lexical_refusal, no_tokens}
use Rattle.gil_text.proofs.texts.tokens_of.Goals as goal

pub returns-in-Err-clause-refused : goal.returns-in-Err-clause-refused
returns-in-Err-clause-refused c = rw c.lexical.ensures (lexical_refusal c.in-Err.fault.kind c.args.bytes.now c.in-Err.fault.at c.in-Err.ensures.fault)

pub returns-in-Err-clause-lexical : goal.returns-in-Err-clause-lexical
returns-in-Err-clause-lexical c = rw c.lexical.ensures (no_tokens c.in-Err.fault.kind c.args.bytes.now c.in-Err.fault.at c.in-Err.ensures.fault)
