-- What a list of words asks for. Whether the words are a command is a question about the words alone.
use Rattle.std.specs.Prelude.{ℕ, List, [], ◌∷◌, if◌then◌else◌, Option, None, codes}
use Rattle.std.specs.Str.{bytes_eq}
use Rattle.std.specs.Option.{option_map}
use Rattle.polkatool_cmd.specs.Values.{file_of}
use Rattle.polkatool_cmd.specs.LinkWords.{LinkCommand, link_command_of}
use Rattle.polkatool_cmd.specs.LinkRead.{link_in}
use Rattle.polkatool_cmd.specs.RunWords.{RunCommand, run_command_of}
use Rattle.polkatool_cmd.specs.RunRead.{run_in}
use Rattle.polkatool_cmd.specs.ExecWords.{ExecCommand, exec_command_of}
use Rattle.polkatool_cmd.specs.ExecRead.{exec_in}
use Rattle.polkatool_cmd.specs.GenerateWords.{GenerateCommand, generate_command_of}
use Rattle.polkatool_cmd.specs.GenerateRead.{generate_in}
use Rattle.polkatool_cmd.specs.declared.commands.Command.{Command as Asked}
use Rattle.polkatool_cmd.specs.declared.commands.Command.TheVariants as asked

-- A command with its values. A check and a disassembly name the file of their blob.
pub data Command : Type 0 where
  Link : (link : LinkCommand) → Command
  Run : (run : RunCommand) → Command
  Exec : (exec : ExecCommand) → Command
  Check : (blob : List ℕ) → Command
  Disassemble : (blob : List ℕ) → Command
  Generate : (generate : GenerateCommand) → Command

-- the blob that the one word after a verb names
abbrev pub blob_of : List (List ℕ) → Option (List ℕ)
blob_of (word ∷ []) = file_of word
blob_of words = None

-- The command that the words ask for. None is a usage error.
abbrev pub command_of : List (List ℕ) → Option Command
command_of [] = None
command_of (verb ∷ words) =
    if bytes_eq verb (codes "link") then option_map Link (link_command_of words)
    else (if bytes_eq verb (codes "run") then option_map Run (run_command_of words)
    else (if bytes_eq verb (codes "exec") then option_map Exec (exec_command_of words)
    else (if bytes_eq verb (codes "check") then option_map Check (blob_of words)
    else (if bytes_eq verb (codes "disassemble") then option_map Disassemble (blob_of words)
    else (if bytes_eq verb (codes "gen") then option_map Generate (generate_command_of words)
    else None)))))

-- the command that was asked for
abbrev pub command_in : Asked → Command
command_in (asked.Link c) = Link (link_in c)
command_in (asked.Run c) = Run (run_in c)
command_in (asked.Exec c) = Exec (exec_in c)
command_in (asked.Check blob) = Check blob.now
command_in (asked.Disassemble blob) = Disassemble blob.now
command_in (asked.Generate c) = Generate (generate_in c)
