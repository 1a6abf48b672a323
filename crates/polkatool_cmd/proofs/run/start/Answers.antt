use Rattle.std.proofs.Common.{◌≡◌, sym, ap, ◌∙◌}
use Rattle.pvm_machine.specs.Started.{started}
use Rattle.polkatool_cmd.specs.RunRead.{settings_in}
use Rattle.polkatool_cmd.proofs.RunFaults.{first_start_fault-none}
use Rattle.polkatool_cmd.proofs.run.start.Goals as goal

pub returns-in-Ok : goal.returns-in-Ok
returns-in-Ok c =
    let asked = settings_in c.args.settings.now in
    let container = c.in_ok-container.container in
    let bytes : c.as_slice.result.now ≡ asked.argument = c.as_slice.ensures.value ∙ c.in_ok-argument.ensures in
    record {
      container = container;
      no_fault =
          first_start_fault-none asked.entry asked.argument c.args.file.now container (sym c.in_ok-container.ensures.exact)
          (λ more. cc (c.in-Ok.ensures.argument.1 (rw bytes more)))
          (λ none. cc (c.in-Ok.ensures.entry.1 (rw bytes none)));
      is_container = sym c.in_ok-container.ensures.exact;
      machine_is = c.in-Ok.ensures.started ∙ ap (λ argument. started container asked.entry argument asked.gas) bytes;
    }
