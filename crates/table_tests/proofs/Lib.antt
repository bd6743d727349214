mod ShortLemmas
