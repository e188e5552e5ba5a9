mod Quotes
