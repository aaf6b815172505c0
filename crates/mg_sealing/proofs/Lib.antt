mod LineLemmas
mod LawLemmas
mod ReportLemmas
mod SealedLemmas
mod TwiceLemmas
