mod IdleLemmas
