-- Every command without a fault and without a failed call.
use Rattle.link_core.specs.Faults.{FirstFaultIsOne}
use Rattle.link_core.specs.Laws.{LinkedIsOne}
use Rattle.disasm.specs.Disassembly.{disassembly}
use Rattle.polkatool_cmd.specs.BlobFaults.{first_disassemble_fault}
use Rattle.polkatool_cmd.specs.CheckFaults.{first_check_fault}
use Rattle.polkatool_cmd.specs.Commands.{Link, Run, Exec, Check, Disassemble, Generate}
use Rattle.polkatool_cmd.specs.Complete.{CommandsComplete}
use Rattle.polkatool_cmd.specs.Lines.{ok_text}
use Rattle.polkatool_cmd.proofs.Completing.{link_complete, text_complete}
use Rattle.polkatool_cmd.proofs.CompletingRuns.{run_complete, exec_complete}
use Rattle.polkatool_cmd.proofs.CompletingGenerate.{generate_complete}

pub all_complete : FirstFaultIsOne → LinkedIsOne → CommandsComplete
all_complete first one (Link link) wanted status old new err err' known can none c =
    link_complete first link wanted status c.answer old new err err' known can none c.results c.reports
all_complete first one (Run run) wanted status old new err err' known can none c =
    run_complete run wanted status c.answer old new err err' known can none c.results c.reports
all_complete first one (Exec exec) wanted status old new err err' known can none c =
    exec_complete first one exec wanted status c.answer old new err err' known can none c.results c.reports
all_complete first one (Check blob) wanted status old new err err' known can none c =
    text_complete first_check_fault (λ d. ok_text) blob can.container wanted status c.answer old new err err' known can.holds can.status_is none c.results c.reports
all_complete first one (Disassemble blob) wanted status old new err err' known can none c =
    text_complete first_disassemble_fault (λ d. disassembly d.program) blob can.container wanted status c.answer old new err err' known can.holds can.status_is none c.results c.reports
all_complete first one (Generate asked) wanted status old new err err' known can none c =
    generate_complete asked wanted status c.answer (record { text = old.out; puts = old.puts }) (record { text = new.out; puts = new.puts }) err err' can none.puts none.err_puts c.results.results c.reports
