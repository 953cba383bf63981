-- The definition of each language.
use Rattle.gillian_words.specs.declared.tasks.Language.{Language}
use Rattle.gillian_words.specs.declared.tasks.Language.TheVariants.{GilRecord, GilBlock, GilObject, While, Clike, Object}
use Rattle.gillian_core.specs.ClikeLanguage.{clike_language}
use Rattle.gillian_core.specs.Definitions.{Definition}
use Rattle.gillian_core.specs.Gil.{gil_record, gil_block, gil_object}
use Rattle.gillian_core.specs.ObjectLanguage.{object_language}
use Rattle.gillian_core.specs.WhileLanguage.{while_language}

abbrev pub definition_of : Language → Definition
definition_of GilRecord = gil_record
definition_of GilBlock = gil_block
definition_of GilObject = gil_object
definition_of While = while_language
definition_of Clike = clike_language
definition_of Object = object_language
