-- What ties reading to the grammar, for programs and for containers.
use Rattle.std.specs.Prelude.{◌≡◌, List, ℕ, ◌↔◌, Ok, IsErr}
use Rattle.blob_codec.specs.Grammar.{Program, program_bytes, IsProgram, Container, container_bytes, IsContainer}
use Rattle.blob_codec.specs.Reading.{AreBytes, program_of, container_of}

-- what is read of bytes is in the grammar, and the bytes are its spelling
abbrev pub ProgramsAreSpelled : Type 0
ProgramsAreSpelled = (bytes : List ℕ) (p : Program) → AreBytes bytes → program_of bytes ≡ Ok p → IsProgram p × (bytes ≡ program_bytes p)

-- what is in the grammar is read from its spelling
abbrev pub ProgramsAreRead : Type 0
ProgramsAreRead = (p : Program) → IsProgram p → program_of (program_bytes p) ≡ Ok p

-- no two lists of bytes are read as one program
abbrev pub ProgramsHaveOneSpelling : Type 0
ProgramsHaveOneSpelling = (a b : List ℕ) (p : Program) → AreBytes a → AreBytes b → program_of a ≡ Ok p → program_of b ≡ Ok p → a ≡ b

-- two programs with one spelling are one
abbrev pub ProgramsDiffer : Type 0
ProgramsDiffer = (p q : Program) → IsProgram p → IsProgram q → program_bytes p ≡ program_bytes q → p ≡ q

-- a fault comes exactly where bytes spell no program
abbrev pub ProgramsOrFaults : Type 0
ProgramsOrFaults = (bytes : List ℕ) → AreBytes bytes → IsErr (program_of bytes) ↔ ((p : Program) → IsProgram p → bytes ≡ program_bytes p → ⊥)

-- the same of containers: what is read is in the grammar, and the bytes are its spelling
abbrev pub ContainersAreSpelled : Type 0
ContainersAreSpelled = (bytes : List ℕ) (c : Container) → AreBytes bytes → container_of bytes ≡ Ok c → IsContainer c × (bytes ≡ container_bytes c)

-- what is in the grammar is read from its spelling
abbrev pub ContainersAreRead : Type 0
ContainersAreRead = (c : Container) → IsContainer c → container_of (container_bytes c) ≡ Ok c

-- no two lists of bytes are read as one container
abbrev pub ContainersHaveOneSpelling : Type 0
ContainersHaveOneSpelling = (a b : List ℕ) (c : Container) → AreBytes a → AreBytes b → container_of a ≡ Ok c → container_of b ≡ Ok c → a ≡ b

-- two containers with one spelling are one
abbrev pub ContainersDiffer : Type 0
ContainersDiffer = (b c : Container) → IsContainer b → IsContainer c → container_bytes b ≡ container_bytes c → b ≡ c

-- a fault comes exactly where bytes spell no container
abbrev pub ContainersOrFaults : Type 0
ContainersOrFaults = (bytes : List ℕ) → AreBytes bytes → IsErr (container_of bytes) ↔ ((c : Container) → IsContainer c → bytes ≡ container_bytes c → ⊥)
