use Rattle.std.proofs.Common.{rules, inl, inr}
use Rattle.polkatool_cmd.proofs.link_objects.link.Goals as goal

pub returns-then-is_err-clause-results : goal.returns-then-is_err-clause-results
returns-then-is_err-clause-results g c = inr (inl (record {
  linked = c.in-Ok.linked;
  links = c.in-Ok.ensures.links;
  cause = search rules;
  others = search rules;
}))

pub returns-in-Ok-map_text-clause-results : goal.returns-in-Ok-map_text-clause-results
returns-in-Ok-map_text-clause-results g c = record {
  linked = c.in-Ok.linked;
  links = c.in-Ok.ensures.links;
  written = search rules;
  map = c.in-Ok-map_text.ensures.ok;
  others = search rules;
}

pub returns-clause-results : goal.returns-clause-results
returns-clause-results g c = inr (inr (record {
  linked = c.in-Ok.linked;
  links = c.in-Ok.ensures.links;
  written = search rules;
  map = c.in-Err-map_text.ensures.err;
  cause = search rules;
  others = search rules;
}))
