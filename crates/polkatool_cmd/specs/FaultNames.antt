-- The names of faults by their codes.
use Rattle.std.specs.Prelude.{ℕ, List, [], ◌∷◌, ◌++◌, ◌==◌, if◌then◌else◌, codes}
use Rattle.elf_objects.specs.declared.fault.TheConstants.{NOT_ELF, WRONG_KIND, WRONG_FLAGS, BAD_TABLE, BAD_NAME, BAD_SYMBOL, BAD_RELOCATION, UNSUPPORTED_SECTION}
use Rattle.symbols.specs.declared.fault.TheConstants.{COMMON, DUPLICATE, UNDEFINED, ENTRY_MISSING, ENTRY_NOT_CODE}
use Rattle.layout.specs.declared.fault.TheConstants.{READ_ONLY_TOO_LARGE, WRITABLE_TOO_LARGE, ZERO_TOO_LARGE, CODE_TOO_LARGE}
use Rattle.link_core.specs.declared.linker.TheConstants.{CODE_BYTES_TOO_LARGE}
use Rattle.relocs.specs.declared.fault.TheConstants.{BAD_WORD, BAD_REGISTER, ECALL, LOAD_TO_ZERO, AUIPC_UNRELOCATED, WRONG_RELOCATION, MISSING_HIGH}
use Rattle.relocs.specs.declared.fault.TheConstants.{VALUE_OUT_OF_RANGE, NOT_A_PLACE, WRONG_DATA_RELOCATION, BAD_TARGET as BAD_BRANCH_TARGET, INTO_PAIR}
use Rattle.polkatool_cmd.specs.declared.fault_codes.TheConstants.{TRUNCATED, OVERLONG, BAD_WIDTH, BAD_PADDING, LEFT_OVER, ARGUMENT_TOO_LARGE, BAD_ENTRY}
use Rattle.polkatool_cmd.specs.declared.fault_codes.TheConstants.{NO_FIRST, UNKNOWN_OPCODE, BAD_TARGET, BAD_TABLE_ENTRY, OPEN_END, BAD_REPLY_LINE, FILE_TOO_LARGE}

-- the name of a code in a table: empty where no row has the code
abbrev pub name_among : List (ℕ × List ℕ) → ℕ → List ℕ
name_among [] code = []
name_among (row ∷ rows) code = if code == row.0 then row.1 else name_among rows code

-- of objects, symbols, entries and sizes: 1 to 17
abbrev pub object_names : List (ℕ × List ℕ)
object_names =
    (NOT_ELF, codes "NotElf")
    ∷ (WRONG_KIND, codes "WrongKind")
    ∷ (WRONG_FLAGS, codes "WrongFlags")
    ∷ (BAD_TABLE, codes "BadTable")
    ∷ (BAD_NAME, codes "BadName")
    ∷ (BAD_SYMBOL, codes "BadSymbol")
    ∷ (BAD_RELOCATION, codes "BadRelocation")
    ∷ (UNSUPPORTED_SECTION, codes "UnsupportedSection")
    ∷ (COMMON, codes "Common")
    ∷ (DUPLICATE, codes "Duplicate")
    ∷ (UNDEFINED, codes "Undefined")
    ∷ (ENTRY_MISSING, codes "EntryMissing")
    ∷ (ENTRY_NOT_CODE, codes "EntryNotCode")
    ∷ (READ_ONLY_TOO_LARGE, codes "RoTooLarge")
    ∷ (WRITABLE_TOO_LARGE, codes "RwTooLarge")
    ∷ (ZERO_TOO_LARGE, codes "ZeroTooLarge")
    ∷ (CODE_TOO_LARGE, codes "CodeTooLarge")
    ∷ []

-- of code, relocations and the program's size: 20 to 32
abbrev pub code_names : List (ℕ × List ℕ)
code_names =
    (BAD_WORD, codes "BadWord")
    ∷ (BAD_REGISTER, codes "BadRegister")
    ∷ (ECALL, codes "Ecall")
    ∷ (LOAD_TO_ZERO, codes "LoadToZero")
    ∷ (AUIPC_UNRELOCATED, codes "AuipcUnrelocated")
    ∷ (WRONG_RELOCATION, codes "WrongRelocation")
    ∷ (MISSING_HIGH, codes "MissingHigh")
    ∷ (VALUE_OUT_OF_RANGE, codes "ValueOutOfRange")
    ∷ (NOT_A_PLACE, codes "NotAPlace")
    ∷ (WRONG_DATA_RELOCATION, codes "WrongDataRelocation")
    ∷ (BAD_BRANCH_TARGET, codes "BadTarget")
    ∷ (INTO_PAIR, codes "IntoPair")
    ∷ (CODE_BYTES_TOO_LARGE, codes "CodeBytesTooLarge")
    ∷ []

-- of containers, runs, checks and files: 40 to 61
abbrev pub blob_names : List (ℕ × List ℕ)
blob_names =
    (TRUNCATED, codes "Truncated")
    ∷ (OVERLONG, codes "Overlong")
    ∷ (BAD_WIDTH, codes "BadWidth")
    ∷ (BAD_PADDING, codes "BadPadding")
    ∷ (LEFT_OVER, codes "LeftOver")
    ∷ (ARGUMENT_TOO_LARGE, codes "ArgumentTooLarge")
    ∷ (BAD_ENTRY, codes "BadEntry")
    ∷ (NO_FIRST, codes "NoFirst")
    ∷ (UNKNOWN_OPCODE, codes "UnknownOpcode")
    ∷ (BAD_TARGET, codes "BadTarget")
    ∷ (BAD_TABLE_ENTRY, codes "BadEntry")
    ∷ (OPEN_END, codes "OpenEnd")
    ∷ (BAD_REPLY_LINE, codes "BadReplyLine")
    ∷ (FILE_TOO_LARGE, codes "FileTooLarge")
    ∷ []

-- The name of a fault's code. A code without a fault has the empty name.
unfoldable pub fault_name : ℕ → List ℕ
fault_name code = name_among (object_names ++ code_names ++ blob_names) code
