mod Prefixes
mod SharedPrefixes
