mod DraftsLemmas
