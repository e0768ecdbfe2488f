use Rattle.chains.proofs.+copy_rest.Given as goal

-- proposed from what the function passes where it calls itself
abbrev pub decreases-copy_rest : goal.decreases-copy_rest
decreases-copy_rest l = l.m
