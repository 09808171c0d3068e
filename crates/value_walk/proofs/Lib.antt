mod WalkingLemmas
