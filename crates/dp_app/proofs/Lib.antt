mod TargetsLemmas
