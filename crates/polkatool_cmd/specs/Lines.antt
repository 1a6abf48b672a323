-- What the program prints.
use Rattle.std.specs.Prelude.{ℕ, List, ◌++◌, slice_index, codes}
use Rattle.disasm.specs.Digits.{hex_digits}
use Rattle.transcript.specs.Lines.{number_field}
use Rattle.elf_objects.specs.declared.fault.Fault.{Fault}
use Rattle.polkatool_cmd.specs.FaultNames.{fault_name}

-- what a check of a program without a fault puts
abbrev pub ok_text : List ℕ
ok_text = codes "ok\n"

-- the lines on standard error for a usage error, for a failed read or write, and for a failed allocation
abbrev pub usage_line : List ℕ
usage_line = codes "polkatool: bad command line\n"

abbrev pub file_fault_line : List ℕ
file_fault_line = codes "polkatool: file fault\n"

abbrev pub memory_line : List ℕ
memory_line = codes "polkatool: out of memory\n"

-- the line on err for a refusal: the code, its name, and where the fault is
unfoldable pub refused_line : Fault → List ℕ
refused_line f =
    number_field (codes "refused ") f.code
    ++ codes " "
    ++ fault_name f.code
    ++ number_field (codes " object=") f.object
    ++ number_field (codes " section=") f.section
    ++ number_field (codes " offset=") f.offset
    ++ codes "\n"

-- a label and the value of a register, in sixteen digits
abbrev pub value_field : List ℕ → ℕ → List ℕ
value_field label value = label ++ hex_digits 16 value

-- The line of a generation: its seed and count, how many bytes of code its program has, how much gas the run spent, and
-- the registers a2 to a5, which are 9 to 12, at its halt.
unfoldable pub generated_line : ℕ → ℕ → ℕ → ℕ → List ℕ → List ℕ
generated_line seed count code gas registers =
    number_field (codes "gen seed=") seed
    ++ number_field (codes " count=") count
    ++ number_field (codes " code=") code
    ++ number_field (codes " gas=") gas
    ++ codes " end=halt"
    ++ value_field (codes " a2=") (slice_index registers 9)
    ++ value_field (codes " a3=") (slice_index registers 10)
    ++ value_field (codes " a4=") (slice_index registers 11)
    ++ value_field (codes " a5=") (slice_index registers 12)
    ++ codes "\n"
