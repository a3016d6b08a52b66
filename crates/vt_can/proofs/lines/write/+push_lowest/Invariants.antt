use Rattle.vt_can.proofs.lines.write.+push_lowest.Given as goal

abbrev pub decreases-push_lowest : goal.decreases-push_lowest
decreases-push_lowest l = l.count
