use Rattle.vt_recorded.proofs.plain.+put_pairs.Given as goal

abbrev pub decreases-put_pairs : goal.decreases-put_pairs
decreases-put_pairs l = l.most
