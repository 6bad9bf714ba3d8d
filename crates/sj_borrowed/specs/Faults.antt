-- Which fault stands for a known key's.
use Rattle.sj_text_core.specs.declared.value_type.ValueType.TheVariants as kind
use Rattle.sj_text_core.specs.declared.json_error.JsonError.{JsonError}
use Rattle.sj_text_core.specs.declared.json_error.JsonError.TheVariants as json_error
use Rattle.sj_borrowed.specs.declared.known_key.error.Error.{Error}
use Rattle.sj_borrowed.specs.declared.known_key.error.Error.TheVariants.{NotAnObject, OutOfMemory}

abbrev pub unset : Error → JsonError
unset (NotAnObject got) = json_error.Kind (record { expected = kind.Object; got = got })
unset OutOfMemory = json_error.OutOfMemory
