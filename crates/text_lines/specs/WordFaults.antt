-- Which fault of a word a reader's refusal is, and which of a line.
use Rattle.relay_types.specs.declared.fault.ReadFault.{ReadFault}
use Rattle.relay_types.specs.declared.fault.ReadFault.TheVariants as reader
use Rattle.text_lines.specs.declared.answering.LineFault.{LineFault}
use Rattle.text_lines.specs.declared.answering.LineFault.TheVariants as line
use Rattle.text_lines.specs.declared.words.WordFault.{WordFault}
use Rattle.text_lines.specs.declared.words.WordFault.TheVariants.{Bad, OutOfMemory}

abbrev pub word_fault : ReadFault → WordFault
word_fault reader.OutOfMemory = OutOfMemory
word_fault _ = Bad

abbrev pub line_fault : WordFault → LineFault
line_fault Bad = line.Bad
line_fault OutOfMemory = line.OutOfMemory
