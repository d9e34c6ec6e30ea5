use Rattle.dp_audit.proofs.findings.audit.Goals as goal

pub findings_of-requires : goal.findings_of-requires
findings_of-requires g c = rw (c.in_ok-finder.ensures {u = tt}) (record {
  known = record { naming = c.in_ok-naming.ensures {u = tt}; set = c.in_ok-set.ensures {u = tt}; hidden = c.in_ok-hidden.ensures {u = tt} };
})
