mod TextLemmas
