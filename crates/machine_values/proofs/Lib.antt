mod CountLengths
