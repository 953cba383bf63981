use Rattle.gillian_core.proofs.Ending.{right_if_reported, unfit_if_words, refused_if_text, read_if_answered, nothing_written}
use Rattle.gillian_core.proofs.Ending.{used_up_if_failed, answered_where_told}
use Rattle.gillian_core.proofs.top.gillian.Goals as goal

pub returns-clause-right : goal.returns-clause-right
returns-clause-right g c = right_if_reported _ _ c.respond.ensures.ends

pub returns-clause-words : goal.returns-clause-words
returns-clause-words g c = unfit_if_words _ _ c.respond.ensures.ends

pub returns-clause-used_up : goal.returns-clause-used_up
returns-clause-used_up g c = used_up_if_failed _ _ c.respond.ensures.ends

pub returns-clause-answered : goal.returns-clause-answered
returns-clause-answered g c = λ q asked. answered_where_told _ (c.words_ask_for_one_thing.ensures _) _ c.respond.ensures.ends q asked

pub returns-clause-text : goal.returns-clause-text
returns-clause-text g c = refused_if_text _ _ c.respond.ensures.ends

pub returns-clause-nothing : goal.returns-clause-nothing
returns-clause-nothing g c = nothing_written _ _ c.respond.ensures.ends

pub returns-clause-read : goal.returns-clause-read
returns-clause-read g c = λ q asked reads. read_if_answered _ (c.words_ask_for_one_thing.ensures _) q asked reads _ c.respond.ensures.ends
